-- What was checked is what the state decides, and what is written is the book with the row proposed.
use Rattle.std.specs.Prelude.{None, Some}
use Rattle.rules.proofs.Checks.PassedOn.{passed_on}
use Rattle.std.proofs.Common.{sym, refl, ◌∙◌, arith}
use Rattle.rules.specs.Requests.{register}
use Rattle.rules.proofs.Checks.Clearing.{checked-same}
use Rattle.book.proofs.StateLaws.{book_length}
use Rattle.book.proofs.Answers.{refused_answered}
use Rattle.registration.proofs.RegisterLaws.{ready_proposes, few_rows, registered_answered}
use Rattle.registration.proofs.register.register.Goals as goal

pub register_fault-requires : goal.register_fault-requires
register_fault-requires c =
    record { known_book = c.requires.known_book; proposes_row = ready_proposes register _ _ refl c.requires.ready }

pub returns-in_err-register_fault : goal.returns-in_err-register_fault
returns-in_err-register_fault c =
    let both = refused_answered register _ _ c.requires.known_book _
    (checked-same _ (Some _) (sym c.register_fault.ensures ∙ c.in_err-register_fault.was)) in record { answer = passed_on _ c.from_residual.ensures.1 ∙ both.0; bytes = both.1.0; still = both.1.1 }

pub append_row-requires : goal.append_row-requires
append_row-requires c =
    let few = few_rows _ _ (checked-same _ None (sym c.register_fault.ensures ∙ c.in_ok-register_fault.was)) in
    (book_length _ c.requires.known_book, omega (arith, few, c.row_count-n.ensures.meaning))

pub returns : goal.returns
returns c =
    let free = checked-same _ None (sym c.register_fault.ensures ∙ c.in_ok-register_fault.was) in
    let both = registered_answered _ _ c.requires.known_book _ _ c.requires.ready free c.row_count-n.ensures.meaning (omega (arith, few_rows _ _ free, c.row_count-n.ensures.meaning))
    (rw c.proposed_row-row.ensures at c.append_row.ensures) in record { answer = both.0; bytes = both.1.0; still = both.1.1 }
