-- Bytes that are a book are read as one, and others are not.
use mathlib.Core.Path.{sym, ◌∙◌}
use Rattle.rules.specs.Limits.{most_hours, book_size}
use Rattle.image.proofs.Round.{book_is_sound}
use Rattle.book.specs.Answers.{exposure_answer}
use Rattle.day.proofs.interface.exposure.Goals as goal

pub exposure_in-requires : goal.exposure_in-requires
exposure_in-requires c = book_is_sound most_hours book_size _ (sym c.is_book.ensures ∙ c.if-is_book.true)

pub returns-then-is_book : goal.returns-then-is_book
unfolding exposure_answer
returns-then-is_book c = rw (sym c.is_book.ensures ∙ c.if-is_book.true) c.exposure_in.ensures

pub returns : goal.returns
unfolding exposure_answer
returns c = rw (sym c.is_book.ensures ∙ c.if-is_book.false)
