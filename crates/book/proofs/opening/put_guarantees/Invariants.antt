-- Copying the guarantees that are left, after those copied so far, comes to copying all of them.
use Prim.Native.Nat.{◌+◌, ◌-◌, ◌*◌, ◌≤◌}
use mathlib.Core.Path.{◌≡◌}
use lib.ListN.{length}
use Rattle.rules.specs.Opening.{guarantee_width, operator_entry}
use Rattle.book.specs.Fresh.{guarantees_put}
use Rattle.book.proofs.opening.put_guarantees.Given as goal

abbrev pub invariant-loop-i : goal.invariant-loop-i
invariant-loop-i l =
    (l.i ≤ l.n)
    × (length l.book ≡ length l.initial.book)
    × (guarantees_put l.initial.book l.to l.setup l.from l.n
    ≡ guarantees_put l.book (l.to + guarantee_width * l.i) l.setup (l.from + operator_entry * l.i) (l.n - l.i))
