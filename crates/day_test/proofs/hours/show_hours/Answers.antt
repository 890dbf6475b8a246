use Rattle.std.proofs.Common.{sym, ◌∙◌}
use Rattle.rules.specs.Limits.{most_hours, book_size}
use Rattle.image.proofs.Round.{book_is_sound}
use Rattle.day_test.proofs.hours.show_hours.Goals as goal

-- src/hours.rt: the bytes are a book where the check says so
pub show_priced-requires : goal.show_priced-requires
show_priced-requires g c = book_is_sound most_hours book_size _ (sym c.is_book.ensures ∙ c.if-is_book.true)
