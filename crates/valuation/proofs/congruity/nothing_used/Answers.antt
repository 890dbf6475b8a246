-- The array has a zero in each cell.
use mathlib.Core.Path.{refl}
use Rattle.valuation.specs.Congruity.{nothing_used}
use Rattle.valuation.proofs.congruity.nothing_used.Goals as goal

pub returns : goal.returns
unfolding nothing_used
returns c = refl
