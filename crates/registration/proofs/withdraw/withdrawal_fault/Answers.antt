-- The tests of withdraw are made in the order of their numbers, so that the first that fails is the refusal.
use Rattle.std.proofs.Common.{sym, ap, ◌∙◌}
use Rattle.rules.specs.Requests.{withdraw}
use Rattle.rules.specs.Verdicts.{checked}
use Rattle.book.proofs.Answers.{in_wrong_phase}
use Rattle.registration.proofs.Decisions.{no_row_to_withdraw, row_to_withdraw}
use Rattle.rules.specs.declared.phases.Phase.TheVariants.{Registration}
use Rattle.book.proofs.PhaseLaws.{other_phase, same_phase}
use Rattle.registration.proofs.withdraw.withdrawal_fault.Goals as goal

pub returns-then-ne : goal.returns-then-ne
returns-then-ne c = ap checked (sym (in_wrong_phase _ _ withdraw (other_phase _ Registration c.phase.ensures c.ne.ensures c.if-ne.true)))

pub returns-then-is_own_pending : goal.returns-then-is_own_pending
returns-then-is_own_pending c = ap checked (sym (row_to_withdraw _ _ (same_phase _ Registration c.phase.ensures c.ne.ensures c.if-ne.false) (sym c.is_own_pending.ensures ∙ c.if-is_own_pending.true)))

pub returns : goal.returns
returns c = ap checked (sym (no_row_to_withdraw _ _ (same_phase _ Registration c.phase.ensures c.ne.ensures c.if-ne.false) (sym c.is_own_pending.ensures ∙ c.if-is_own_pending.false)))
