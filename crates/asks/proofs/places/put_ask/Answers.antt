-- The proposer has a place, and the row fills it.
use native.Mathlib.Omega.{arith}
use mathlib.Core.Path.{ap, ◌∙◌}
use lib.ListN.{length}
use Rattle.image.proofs.Writing.Sizes.{length_row}
use Rattle.book.proofs.StateLaws.{book_length}
use Rattle.asks.proofs.PlaceLaws.{proposer_placed, ask_written}
use Rattle.asks.proofs.places.put_ask.Goals as goal

pub ask_offset-at-requires : goal.ask_offset-at-requires
ask_offset-at-requires c = proposer_placed _ c.requires.0 _ c.requires.1

pub copy_in-requires : goal.copy_in-requires
copy_in-requires c =
    let known = proposer_placed _ c.requires.0 _ c.requires.1 in
    let wide = ap length c.row_bytes-bytes.ensures ∙ length_row c.args.row in
    omega (arith, c.ask_offset-at.ensures, book_length _ c.requires.0, known.0, known.1, wide)

pub returns : goal.returns
returns c =
    (rw c.row_bytes-bytes.ensures at c.copy_in.ensures) ∙ ask_written _ c.requires.0 _ _ c.requires.1 c.ask_offset-at.ensures
