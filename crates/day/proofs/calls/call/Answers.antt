-- Bytes that are a book are called as one, and others are refused with 1.
use mathlib.Core.Path.{sym, ◌∙◌}
use Rattle.day.proofs.CallLaws.{no_book_given}
use Rattle.day.proofs.calls.call.Goals as goal

pub call_in-requires : goal.call_in-requires
call_in-requires c = sym c.is_book.ensures ∙ c.if-is_book.true

pub returns-then-is_book : goal.returns-then-is_book
returns-then-is_book c =
    record { answer = c.call_in.ensures.answer }

pub returns : goal.returns
returns c =
    record { answer = no_book_given _ _ (sym c.is_book.ensures ∙ c.if-is_book.false) }
