-- A row found so far or among the rows that are left is one among all.
use Prim.Native.Nat.{◌+◌, ◌-◌, ◌≤◌}
use mathlib.Core.Path.{◌≡◌}
use mathlib.Core.Bool.{◌||◌}
use lib.ListN.{length, drop}
use Rattle.rules.specs.Basics.{any_passes}
use Rattle.rules.specs.Limits.{most_rows}
use Rattle.image.specs.Valid.{book_in}
use Rattle.strips.specs.Ready.{strip_requests, alike_among}
use Rattle.strips.proofs.standing.any_is_alike.Given as goal

abbrev pub invariant-loop-number : goal.invariant-loop-number
invariant-loop-number l =
    let rows = (book_in l.book).part.rows in
    let among = alike_among l.account (strip_requests l.bytes l.n) in
    (l.number-end ≡ length rows)
    × (l.number-end ≤ most_rows)
    × (1 ≤ l.number)
    × (l.number ≤ l.number-end + 1)
    × (l.found || any_passes among (drop (l.number - 1) rows) ≡ any_passes among rows)
