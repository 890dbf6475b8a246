-- Bytes that are a book are read as one, and others are not.
use mathlib.Core.Path.{sym, ◌∙◌}
use Rattle.rules.specs.Limits.{most_hours, book_size}
use Rattle.image.proofs.Round.{book_is_sound}
use Rattle.book.specs.Answers.{net_answer}
use Rattle.day.proofs.interface.net.Goals as goal

pub net_in-requires : goal.net_in-requires
net_in-requires c = book_is_sound most_hours book_size _ (sym c.is_book.ensures ∙ c.if-is_book.true)

pub returns-then-is_book : goal.returns-then-is_book
unfolding net_answer
returns-then-is_book c = rw (sym c.is_book.ensures ∙ c.if-is_book.true) c.net_in.ensures

pub returns : goal.returns
unfolding net_answer
returns c = rw (sym c.is_book.ensures ∙ c.if-is_book.false)
