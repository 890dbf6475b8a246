-- The two tests are those of the definition.
use mathlib.Core.List.{[], ◌∷◌}
use Rattle.rules.proofs.Basics.Tests.{chained_all}
use Rattle.audit.specs.Validity.{guarantees_valid}
use Rattle.audit.proofs.part.guarantees_valid.Goals as goal

pub returns : goal.returns
unfolding guarantees_valid
returns c = rw (c.guarantees_ok.ensures, c.all_zero.ensures) (chained_all _ (_ ∷ []))
