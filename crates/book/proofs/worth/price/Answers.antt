-- The estimate of the set-up's bytes is that of the book's set-up.
use native.Mathlib.Omega.{arith}
use Rattle.book.proofs.BookRows.{setup_tabled}
use Rattle.book.proofs.WorthParts.{hours_in, estimate_stands}
use Rattle.book.proofs.worth.price.Goals as goal

pub estimate-requires : goal.estimate-requires
estimate-requires c =
    ((setup_tabled _ c.requires.0).whole, c.requires.1.0, omega (arith, c.requires.1, hours_in _ c.requires.0))

pub returns : goal.returns
returns c =
    let both = estimate_stands _ c.requires.0 c.args.hour _ c.estimate.ensures in record { meaning = both.0; bounded = both.1 }
