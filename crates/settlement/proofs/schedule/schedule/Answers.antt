-- What was checked is what the book's state refuses the schedule for; where that is nothing, the bytes written are the book with the
-- schedule added.
use Rattle.std.specs.Prelude.{None, Some}
use Rattle.rules.proofs.Checks.PassedOn.{passed_on}
use mathlib.Core.Path.{sym, ◌∙◌}
use native.Mathlib.Omega.{arith}
use Rattle.rules.specs.Requests.{schedule}
use Rattle.rules.proofs.Checks.Clearing.{checked-same}
use Rattle.book.proofs.StateLaws.{book_length}
use Rattle.book.proofs.Answers.{refused_answered}
use Rattle.settlement.proofs.Decisions.{few_schedules}
use Rattle.settlement.proofs.SchedulingLaws.{scheduled_answered}
use Rattle.settlement.proofs.schedule.schedule.Goals as goal

pub returns-in_err-schedule_fault : goal.returns-in_err-schedule_fault
returns-in_err-schedule_fault c =
    let both = refused_answered schedule _ _ c.requires.known_book _ (checked-same _ (Some _) (sym (c.schedule_fault.ensures _) ∙ c.in_err-schedule_fault.was)) in record { answer = passed_on _ c.from_residual.ensures.1 ∙ both.0; bytes = both.1.0; still = both.1.1 }

pub append_schedule-requires : goal.append_schedule-requires
append_schedule-requires c =
    let few = few_schedules _ _ (checked-same _ None (sym (c.schedule_fault.ensures c.args.request) ∙ c.in_ok-schedule_fault.was)) in
    (book_length _ c.requires.known_book, omega (arith, few, c.schedule_count-n.ensures.meaning))

pub returns : goal.returns
returns c =
    let free = checked-same _ None (sym (c.schedule_fault.ensures _) ∙ c.in_ok-schedule_fault.was) in
    let both = scheduled_answered _ _ c.requires.known_book _ _ c.requires.ready free c.schedule_count-n.ensures.meaning
    (rw c.handed_in-x.ensures at c.append_schedule.ensures) in record { answer = both.0; bytes = both.1.0; still = both.1.1 }
