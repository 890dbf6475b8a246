-- What was checked is what the state decides, and what is written is the book with the row withdrawn.
use Rattle.std.specs.Prelude.{None, Some}
use Rattle.rules.proofs.Checks.PassedOn.{passed_on}
use Rattle.std.proofs.Common.{sym, ◌∙◌, arith}
use Rattle.rules.specs.Requests.{withdraw}
use Rattle.rules.proofs.Checks.Clearing.{checked-same}
use Rattle.book.proofs.StateLaws.{book_length}
use Rattle.book.proofs.Answers.{refused_answered}
use Rattle.book.proofs.Readiness.{ready_number}
use Rattle.registration.proofs.Acceptances.{withdrawn_answered}
use Rattle.registration.proofs.withdraw.withdraw.Goals as goal

pub withdrawal_fault-requires : goal.withdrawal_fault-requires
withdrawal_fault-requires c =
    record { known_book = c.requires.known_book; numbered = (ready_number _ _ c.requires.ready).0 }

pub returns-in_err-withdrawal_fault : goal.returns-in_err-withdrawal_fault
returns-in_err-withdrawal_fault c =
    let both = refused_answered withdraw _ _ c.requires.known_book _
    (checked-same _ (Some _) (sym c.withdrawal_fault.ensures ∙ c.in_err-withdrawal_fault.was)) in record { answer = passed_on _ c.from_residual.ensures.1 ∙ both.0; bytes = both.1.0; still = both.1.1 }

pub row_offset-requires : goal.row_offset-requires
row_offset-requires c = ready_number _ _ c.requires.ready

pub put-requires : goal.put-requires
put-requires c =
    let n = book_length _ c.requires.known_book in
    let r = ready_number _ _ c.requires.ready in
    omega arith

pub returns : goal.returns
returns c =
    let both = withdrawn_answered _ _ c.requires.known_book _ _ (checked-same _ None (sym c.withdrawal_fault.ensures ∙ c.in_ok-withdrawal_fault.was)) (omega arith) c.put.ensures in record { answer = both.0; bytes = both.1.0; still = both.1.1 }
