-- The rows appended so far, and those that are left appended after them, make all rows appended.
use Prim.Native.Nat.{◌+◌, ◌-◌, ◌*◌}
use mathlib.Core.Path.{◌≡◌}
use lib.ListN.{length}
use Rattle.rules.specs.Limits.{book_size}
use Rattle.rules.specs.Requests.{head_length, row_length}
use Rattle.registration.specs.Proposing.{rows_appended}
use Rattle.strips.specs.Ready.{proposed_rows}
use Rattle.strips.proofs.LoopLaws.{proposed_from}
use Rattle.strips.proofs.rows.append_rows.Given as goal

abbrev pub invariant-loop-i : goal.invariant-loop-i
invariant-loop-i l =
    (length l.book ≡ book_size)
    × (rows_appended l.book (l.count + l.i) (proposed_from l.bytes (head_length + row_length * l.i) (l.n - l.i)) ≡ rows_appended l.initial.book l.count (proposed_rows l.bytes l.n))
