-- A row found so far or among the rows that are left is one among all.
use Prim.Native.Nat.{◌+◌, ◌-◌, ◌≤◌}
use mathlib.Core.Path.{◌≡◌}
use mathlib.Core.Bool.{◌||◌}
use lib.ListN.{length, drop}
use Rattle.rules.specs.Basics.{any_passes}
use Rattle.rules.specs.Limits.{most_rows}
use Rattle.image.specs.Valid.{book_in}
use Rattle.asks.specs.Standing.{is_ask_twin, some_ask_twin}
use Rattle.asks.proofs.twins.any_ask_twin.Given as goal

abbrev pub invariant-loop-number : goal.invariant-loop-number
invariant-loop-number l =
    let b = book_in l.book in
    (l.number-end ≡ length b.part.rows)
    × (l.number-end ≤ most_rows)
    × (1 ≤ l.number)
    × (l.number ≤ l.number-end + 1)
    × (l.found || any_passes (is_ask_twin b) (drop (l.number - 1) b.part.rows) ≡ some_ask_twin b)
