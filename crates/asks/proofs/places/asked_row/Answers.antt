-- The place lies in the book, and what is read there is the ask of the account.
use mathlib.Core.Path.{sym}
use native.Mathlib.Omega.{arith}
use borrow.Author.Tests.{eq-eqb, ne_eqb}
use Rattle.book.proofs.StateLaws.{book_length}
use Rattle.asks.proofs.PlaceLaws.{ask_in_place}
use Rattle.asks.proofs.places.asked_row.Goals as goal

pub row_at-row-requires : goal.row_at-row-requires
row_at-row-requires c = omega (arith, c.ask_offset.ensures, book_length _ c.requires.0, c.requires.1)

pub returns-then-row-eq0 : goal.returns-then-row-eq0
returns-then-row-eq0 c =
    rw (sym (ask_in_place _ c.requires.0 _ _ _ c.requires.1 c.requires.2 c.ask_offset.ensures c.row_at-row.ensures), eq-eqb _ 0 c.if-row-eq0.true)

pub returns : goal.returns
returns c =
    rw (sym (ask_in_place _ c.requires.0 _ _ _ c.requires.1 c.requires.2 c.ask_offset.ensures c.row_at-row.ensures), ne_eqb _ 0 c.if-row-eq0.false)
