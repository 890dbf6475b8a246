-- The tests of register are made in the order of their numbers, so that the first that fails is the refusal.
use Rattle.std.proofs.Common.{sym, ap, ◌∙◌}
use Rattle.rules.specs.Requests.{register}
use Rattle.rules.specs.Verdicts.{checked}
use Rattle.book.proofs.Answers.{in_wrong_phase}
use Rattle.registration.proofs.RegisterLaws.{twin_pending}
use Rattle.rules.specs.declared.phases.Phase.TheVariants.{Registration}
use Rattle.book.proofs.PhaseLaws.{other_phase, same_phase}
use Rattle.registration.proofs.register.register_fault.Goals as goal

pub returns-then-ne : goal.returns-then-ne
returns-then-ne c = ap checked (sym (in_wrong_phase _ _ register (other_phase _ Registration c.phase.ensures c.ne.ensures c.if-ne.true)))

pub returns-then-fill_waits : goal.returns-then-fill_waits
returns-then-fill_waits c =
    ap checked (sym (twin_pending _ _ (same_phase _ Registration c.phase.ensures c.ne.ensures c.if-ne.false) (sym c.fill_waits.ensures.tells ∙ c.if-fill_waits.true)))
