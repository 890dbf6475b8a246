-- The bytes are the book's image, which has the number of rows at this place, and a book has at most 256.
use mathlib.Core.Path.{◌∙◌}
use native.Mathlib.Omega.{arith}
use Rattle.book.proofs.StateLaws.{book_length, row_count_stands, row_count_high}
use Rattle.book.proofs.state.row_count.Goals as goal

pub overflow_add-get : goal.overflow_add-get
overflow_add-get c = omega arith

pub get-requires : goal.get-requires
get-requires c = omega (arith, book_length _ c.requires)

pub returns : goal.returns
returns c =
    let e = c.get.ensures ∙ row_count_stands _ c.requires in
    record { meaning = e; bounded = omega (arith, e, row_count_high _ c.requires) }
