-- Sound bytes are a book where register would accept each of their asks; others are none.
use mathlib.Core.Path.{sym, ◌∙◌}
use Rattle.rules.specs.Limits.{most_hours, book_size}
use Rattle.image.proofs.Round.{book_by_asks}
use Rattle.book.proofs.StateLaws.{row_count_stands}
use Rattle.book.proofs.BookRows.{rows_in}
use Rattle.asks.proofs.whole.is_book.Goals as goal

pub asks_stand-requires : goal.asks_stand-requires
asks_stand-requires c =
    let sound = sym c.is_sound.ensures.meaning ∙ c.if-is_sound.true in
    (sound, rw (rows_in _ sound _ (row_count_stands _ sound)) (c.is_sound.ensures.sums c.if-is_sound.true))

pub returns-then-is_sound : goal.returns-then-is_sound
returns-then-is_sound c =
    c.asks_stand.ensures ∙ sym (book_by_asks most_hours book_size c.args.book.now ∙ rw (sym c.is_sound.ensures.meaning ∙ c.if-is_sound.true))

pub returns : goal.returns
returns c =
    sym (book_by_asks most_hours book_size c.args.book.now ∙ rw (sym c.is_sound.ensures.meaning ∙ c.if-is_sound.false))
