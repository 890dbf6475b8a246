-- Clearing the guarantees that are left, after those cleared so far, comes to clearing all of them.
use Prim.Native.Nat.{◌+◌, ◌-◌, ◌*◌, ◌≤◌}
use mathlib.Core.Path.{◌≡◌}
use lib.ListN.{length}
use Rattle.rules.specs.Opening.{operator_entry}
use Rattle.book.specs.Fresh.{guarantees_cleared}
use Rattle.book.proofs.opening.clear_guarantees.Given as goal

abbrev pub invariant-loop-i : goal.invariant-loop-i
invariant-loop-i l =
    (l.i ≤ l.n)
    × (length l.s ≡ length l.initial.s)
    × (guarantees_cleared l.initial.s l.from l.n ≡ guarantees_cleared l.s (l.from + operator_entry * l.i) (l.n - l.i))
