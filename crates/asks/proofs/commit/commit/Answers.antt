-- What was checked is what the state decides, and what is written is the book with the row that was asked for.
use Rattle.std.specs.Prelude.{None, Some}
use Rattle.rules.proofs.Checks.PassedOn.{passed_on}
use mathlib.Core.Path.{sym, ◌∙◌}
use native.Mathlib.Omega.{arith}
use Rattle.rules.specs.Limits.{most_hours, book_size}
use Rattle.rules.specs.Requests.{commit}
use Rattle.rules.proofs.Checks.Clearing.{checked-same}
use Rattle.image.proofs.Round.{book_is_sound}
use Rattle.book.proofs.StateLaws.{book_length}
use Rattle.book.proofs.Answers.{refused_answered}
use Rattle.asks.proofs.CommitLaws.{few_rows, committed_answered}
use Rattle.asks.proofs.commit.commit.Goals as goal

pub returns-in_err-commit_fault : goal.returns-in_err-commit_fault
returns-in_err-commit_fault c =
    let both = refused_answered commit _ _ (book_is_sound most_hours book_size _ c.requires.known_book) _
    (checked-same _ (Some _) (sym c.commit_fault.ensures ∙ c.in_err-commit_fault.was)) in record { answer = passed_on _ c.from_residual.ensures.1 ∙ both.0; bytes = both.1.0; still = both.1.1 }

pub row_count-n-requires : goal.row_count-n-requires
row_count-n-requires c = book_is_sound most_hours book_size _ c.requires.known_book

pub append_row-requires : goal.append_row-requires
append_row-requires c =
    let few = few_rows _ _ (checked-same _ None (sym c.commit_fault.ensures ∙ c.in_ok-commit_fault.was)) in
    (book_length _ (book_is_sound most_hours book_size _ c.requires.known_book), omega (arith, few, c.row_count-n.ensures.meaning))

pub returns : goal.returns
returns c =
    let free = checked-same _ None (sym c.commit_fault.ensures ∙ c.in_ok-commit_fault.was) in
    let both = committed_answered _ _ (book_is_sound most_hours book_size _ c.requires.known_book) _ _ c.requires.ready free c.row_count-n.ensures.meaning (omega (arith, few_rows _ _ free, c.row_count-n.ensures.meaning))
    (rw c.proposed_row-row.ensures at c.append_row.ensures) in record { answer = both.0; bytes = both.1.0; still = both.1.1 }
