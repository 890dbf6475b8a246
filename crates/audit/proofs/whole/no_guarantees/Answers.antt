-- The test of the operators by their numbers is that of the operators.
use mathlib.Core.Path.{sym, ◌∙◌}
use Rattle.std.proofs.Common.{of_calls}
use Rattle.audit.proofs.ValidityLaws.{no_guarantees_by_number}
use Rattle.audit.proofs.whole.no_guarantees.Goals as goal

pub returns : goal.returns
returns c =
    c.all_pass.ensures _ (λ i l t post. search of_calls) ∙ sym (no_guarantees_by_number c.args.s.now c.args.at c.args.n)
