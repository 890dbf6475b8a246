-- The tests are those of the definition, in its order.
use mathlib.Core.List.{[], ◌∷◌}
use Rattle.rules.proofs.Basics.Tests.{chained_all}
use Rattle.audit.specs.Validity.{phase_valid}
use Rattle.audit.proofs.whole.phase_valid.Goals as goal

pub returns : goal.returns
unfolding phase_valid
returns c =
    rw (c.none_pending-quiet.ensures, c.get-rows.ensures, c.get-schedules.ensures) (chained_all _ (_ ∷ _ ∷ _ ∷ _ ∷ []))
