-- Both comparisons are the definition's, in numbers of 64 bits, where no sum of two energies is too large.
use mathlib.Core.Path.{refl}
use Rattle.rules.specs.Registration.{keeps_margins}
use Rattle.rules.proofs.hours.keeps_margins.Goals as goal

pub returns : goal.returns
unfolding keeps_margins
returns c = refl
