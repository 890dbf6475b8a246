-- What the table holds, and the pending sums of the rows that are left, make the pending sums of all rows; and a twin found so far or
-- among the rows that are left is a twin among all.
use Prim.Native.Nat.{◌+◌, ◌-◌, ◌*◌, ◌≤◌}
use mathlib.Core.Path.{◌≡◌}
use mathlib.Core.Bool.{◌||◌}
use lib.ListN.{length, drop}
use Rattle.rules.specs.Basics.{any_passes}
use Rattle.rules.specs.Limits.{most_energy, most_rows}
use Rattle.rules.specs.Registration.{alike}
use Rattle.image.specs.Valid.{book_in}
use Rattle.book.specs.Waits.{waits_size}
use Rattle.book.proofs.WaitLaws.{Waiting}
use Rattle.book.proofs.waits.fill_waits.Given as goal

abbrev pub invariant-loop-number : goal.invariant-loop-number
invariant-loop-number l =
    let rows = (book_in l.book).part.rows in
    (l.n ≡ length rows)
    × (l.n ≤ most_rows)
    × (1 ≤ l.number)
    × (l.number ≤ l.n + 1)
    × (length l.table ≡ waits_size)
    × Waiting l.account rows (drop (l.number - 1) rows) l.table ((l.number - 1) * most_energy)
    × (l.found || any_passes (alike l.account l.counterparty l.code) (drop (l.number - 1) rows) ≡ any_passes (alike l.account l.counterparty l.code) rows)
