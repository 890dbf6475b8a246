-- The rows of a book lie side by side, and a number found is that of one of them.
use Rattle.std.proofs.Common.{◌≡◌, Bool, List, sym, ap, ◌∙◌, arith}
use Rattle.rules.specs.declared.Row.{Row}
use Rattle.rules.specs.Basics.{index_of}
use Rattle.rules.specs.Calls.{number_from}
use Rattle.book.proofs.BookRows.{rows_in, rows_summable}
use Rattle.book.proofs.StateLaws.{row_count_high}
use Rattle.registration.specs.Confirming.{some_number}
use Rattle.registration.proofs.PendingLaws.{row_found}
use Rattle.registration.proofs.search.pending_number.Goals as goal

-- the number among the rows that lie side by side is that among the book's
among_stored : (p : Row → Bool) (rows stored : List Row) → rows ≡ stored
    → some_number (number_from (index_of p stored)) ≡ some_number (number_from (index_of p rows))
among_stored p rows stored e = ap (λ (xs : List Row). some_number (number_from (index_of p xs))) (sym e)

pub number_among-requires : goal.number_among-requires
number_among-requires c = (rows_summable _ c.requires _ c.row_count-n.ensures.meaning).0

pub returns-in_err-number-clause-meaning : goal.returns-in_err-number-clause-meaning
returns-in_err-number-clause-meaning c =
    c.from_residual.ensures ∙ sym c.in_err-number.was ∙ c.number_among.ensures ∙ among_stored _ _ _ (rows_in _ c.requires _ c.row_count-n.ensures.meaning)

pub overflow_cast-result : goal.overflow_cast-result
overflow_cast-result c =
    let same = among_stored _ _ _ (rows_in _ c.requires _ c.row_count-n.ensures.meaning) in
    let inside = row_found _ _ _ (sym c.in_ok-number.was ∙ c.number_among.ensures ∙ same) in
    record { fits = omega (arith, inside.1, row_count_high _ c.requires) }

pub returns-clause-meaning : goal.returns-clause-meaning
returns-clause-meaning c =
    sym c.in_ok-number.was ∙ c.number_among.ensures ∙ among_stored _ _ _ (rows_in _ c.requires _ c.row_count-n.ensures.meaning)

pub returns-clause-of_a_row : goal.returns-clause-of_a_row
returns-clause-of_a_row c n e =
    row_found _ _ n
    (sym e ∙ sym c.in_ok-number.was ∙ c.number_among.ensures ∙ among_stored _ _ _ (rows_in _ c.requires _ c.row_count-n.ensures.meaning))
