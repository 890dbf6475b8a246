-- The bytes are the book's image, which has the row of a number at its place.
use Rattle.std.proofs.Common.{◌∙◌, arith}
use Rattle.book.proofs.StateLaws.{book_length, row_count_high, numbered_row_stands}
use Rattle.registration.proofs.confirm.numbered_row.Goals as goal

pub row_offset-requires : goal.row_offset-requires
row_offset-requires c = let high = row_count_high _ c.requires.0 in omega arith

pub row_at-requires : goal.row_at-requires
row_at-requires c =
    let high = row_count_high _ c.requires.0 in
    let n = book_length _ c.requires.0 in
    omega arith

pub returns : goal.returns
returns c =
    c.row_at.ensures ∙ numbered_row_stands _ c.requires.0 c.args.number _ c.requires.1 c.row_offset.ensures
