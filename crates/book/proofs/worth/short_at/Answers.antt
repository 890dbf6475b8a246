-- The net position that is read differs from the two sums by the same on both sides, with the trade taken or not.
use native.Mathlib.Omega.{arith}
use Rattle.rules.specs.Books.{no_row}
use Rattle.rules.proofs.Basics.Searches.{each_at}
use Rattle.book.proofs.ShortLaws.{net_small, short_alone, short_one}
use Rattle.book.proofs.worth.short_at.Goals as goal

pub short_with-requires : goal.short_with-requires
short_with-requires c =
    let small = net_small _ c.requires.0 c.args.account c.args.hour c.requires.1 c.requires.2 _ c.net_at-net.ensures in
    (small.0, small.1, each_at no_row 0 (rw c.in-Some.is at c.requires.3) (omega arith))

pub returns-in-None : goal.returns-in-None
returns-in-None c =
    let both = short_alone _ c.requires.0 c.args.account c.args.hour c.requires.1 c.requires.2 _ c.net_at-net.ensures _ c.short.ensures in
    rw c.in-None.is (record { meaning = both.0; bounded = both.1 })

pub returns-in-Some : goal.returns-in-Some
returns-in-Some c =
    let both = short_one _ c.requires.0 c.args.account c.args.hour c.requires.1 c.requires.2 _ c.net_at-net.ensures _ _
    (each_at no_row 0 (rw c.in-Some.is at c.requires.3) (omega arith)) c.short_with.ensures in
    rw c.in-Some.is (record { meaning = both.0; bounded = both.1 })
