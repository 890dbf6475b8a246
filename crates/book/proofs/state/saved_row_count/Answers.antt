-- The bytes are the book's image, which has the number of saved rows at this place, and the saved rows are the first of the present ones.
use mathlib.Core.Path.{◌∙◌}
use native.Mathlib.Omega.{arith}
use Rattle.book.proofs.StateLaws.{book_length, saved_row_count_stands, saved_rows_fewer}
use Rattle.book.proofs.state.saved_row_count.Goals as goal

pub overflow_add-get : goal.overflow_add-get
overflow_add-get c = omega arith

pub get-requires : goal.get-requires
get-requires c = omega (arith, book_length _ c.requires.known_book)

pub returns : goal.returns
returns c =
    let e = c.get.ensures ∙ saved_row_count_stands _ c.requires.known_book c.requires.batch_open in
    record { meaning = e; bounded = omega (arith, e, saved_rows_fewer _ c.requires.known_book c.requires.batch_open) }
