-- The row is read at its place, and its proposer's ask at its own.
use mathlib.Core.Path.{sym, ◌∙◌}
use native.Mathlib.Omega.{arith}
use Rattle.image.specs.Valid.{book_in}
use Rattle.book.proofs.StateLaws.{book_length, row_count_high, numbered_row_stands}
use Rattle.book.proofs.BookRows.{numbered_tabled}
use Rattle.asks.proofs.TwinLaws.{ask_tested, none_asked}
use Rattle.asks.proofs.twins.is_ask_twin.Goals as goal

pub row_offset-requires : goal.row_offset-requires
row_offset-requires c = omega (arith, c.requires.1, row_count_high _ c.requires.0)

pub row_at-row-requires : goal.row_at-row-requires
row_at-row-requires c =
    omega (arith, c.requires.1, c.row_offset.ensures, row_count_high _ c.requires.0, book_length _ c.requires.0)

pub asked_row-requires : goal.asked_row-requires
asked_row-requires c =
    let row = c.row_at-row.ensures ∙ numbered_row_stands _ c.requires.0 c.args.number _ c.requires.1 c.row_offset.ensures in
    let k = numbered_tabled _ c.requires.0 c.args.number c.requires.1 in
    (c.requires.0, rw row k.proposer_low, rw row k.proposer_high)

pub returns-in_default : goal.returns-in_default
returns-in_default c =
    let row = c.row_at-row.ensures ∙ numbered_row_stands _ c.requires.0 c.args.number _ c.requires.1 c.row_offset.ensures in
    none_asked (book_in c.args.book.now) c.row_at-row.result (sym c.asked_row.ensures ∙ c.in_default.is) ∙ rw row

pub returns : goal.returns
returns c =
    let row = c.row_at-row.ensures ∙ numbered_row_stands _ c.requires.0 c.args.number _ c.requires.1 c.row_offset.ensures in
    let k = numbered_tabled _ c.requires.0 c.args.number c.requires.1 in
    ask_tested _ c.requires.0 c.row_at-row.result _ (rw row k.proposer_low) (rw row k.proposer_high) (sym c.asked_row.ensures ∙ c.in-Some.is) ∙ rw row
