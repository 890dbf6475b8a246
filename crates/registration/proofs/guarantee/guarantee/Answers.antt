-- What was checked is what the state decides, and what is written is the book with the guarantee replaced.
use Rattle.std.specs.Prelude.{None, Some}
use Rattle.rules.proofs.Checks.PassedOn.{passed_on}
use Rattle.std.proofs.Common.{sym, refl, ◌∙◌, arith}
use Rattle.rules.specs.Requests.{guarantee}
use Rattle.rules.proofs.Checks.Clearing.{checked-same}
use Rattle.book.proofs.StateLaws.{book_length}
use Rattle.book.proofs.Answers.{refused_answered}
use Rattle.registration.proofs.GuaranteeLaws.{ready_guarantee, guarantee_answered}
use Rattle.registration.proofs.guarantee.guarantee.Goals as goal

pub returns-in_err-guarantee_fault : goal.returns-in_err-guarantee_fault
returns-in_err-guarantee_fault c =
    let both = refused_answered guarantee _ _ c.requires.known_book _
    (checked-same _ (Some _) (sym c.guarantee_fault.ensures ∙ c.in_err-guarantee_fault.was)) in record { answer = passed_on _ c.from_residual.ensures.1 ∙ both.0; bytes = both.1.0; still = both.1.1 }

pub overflow_sub-request : goal.overflow_sub-request
overflow_sub-request c =
    let low = (ready_guarantee _ _ c.requires.ready).0.0 in
    omega arith

pub put-requires : goal.put-requires
put-requires c =
    let n = book_length _ c.requires.known_book in
    let r = ready_guarantee _ _ c.requires.ready in
    omega arith

pub returns : goal.returns
returns c =
    let both = guarantee_answered _ _ c.requires.known_book _ _ c.requires.ready (checked-same _ None (sym c.guarantee_fault.ensures ∙ c.in_ok-guarantee_fault.was)) refl
    c.put.ensures in record { answer = both.0; bytes = both.1.0; still = both.1.1 }
