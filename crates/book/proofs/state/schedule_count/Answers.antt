-- The bytes are the book's image, which has the number of schedules at this place, and a book has at most 256.
use mathlib.Core.Path.{◌∙◌}
use native.Mathlib.Omega.{arith}
use Rattle.book.proofs.StateLaws.{book_length, schedule_count_stands, schedule_count_high}
use Rattle.book.proofs.state.schedule_count.Goals as goal

pub get-requires : goal.get-requires
get-requires c = omega (arith, book_length _ c.requires)

pub returns : goal.returns
returns c =
    let e = c.get.ensures ∙ schedule_count_stands _ c.requires in
    record { meaning = e; bounded = omega (arith, e, schedule_count_high _ c.requires) }
