-- The tests of schedule, in the order of their numbers.
use mathlib.Core.Path.{sym, ap}
use native.Mathlib.Omega.{arith}
use Rattle.rules.specs.Requests.{schedule}
use Rattle.rules.specs.Verdicts.{checked}
use Rattle.book.proofs.Answers.{in_wrong_phase}
use Rattle.settlement.proofs.Decisions.{place_left}
use Rattle.rules.specs.declared.phases.Phase.TheVariants.{Schedules}
use Rattle.book.proofs.PhaseLaws.{other_phase, same_phase}
use Rattle.settlement.proofs.schedule.schedule_fault.Goals as goal

pub returns-then-ne : goal.returns-then-ne
returns-then-ne c = λ q. ap checked (sym (in_wrong_phase _ q schedule (other_phase _ Schedules c.phase.ensures c.ne.ensures c.if-ne.true)))

pub returns : goal.returns
returns c =
    let second = same_phase _ Schedules c.phase.ensures c.ne.ensures c.if-ne.false in
    λ q. ap checked (sym (place_left _ q second (omega (arith, c.schedule_count.ensures.meaning))))
