-- The tests are those of the definition, in its order.
use mathlib.Core.Path.{refl}
use Rattle.rules.specs.Opening.{bad_counts}
use Rattle.setup.proofs.shape.bad_counts.Goals as goal

pub returns : goal.returns
unfolding bad_counts
returns c = refl
