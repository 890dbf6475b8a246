-- Zeros in all places are no ask.
use native.Mathlib.Omega.{arith}
use Rattle.book.proofs.StateLaws.{book_length}
use Rattle.asks.proofs.PlaceLaws.{cleared_written}
use Rattle.asks.proofs.places.clear_asks.Goals as goal

pub clear_at-requires : goal.clear_at-requires
clear_at-requires c = omega (arith, book_length _ c.requires)

pub returns : goal.returns
returns c =
    let both = cleared_written _ c.requires c.clear_at.ensures in record { bytes = both.0; still = both.1 }
