-- What the table holds, and the pending sums of the strip's rows that are left, make those of the book's rows and all rows of the strip.
use Prim.Native.Nat.{◌+◌, ◌-◌, ◌*◌, ◌≤◌}
use mathlib.Core.Path.{◌≡◌}
use mathlib.Core.List.{◌++◌, map}
use lib.ListN.{length}
use Rattle.rules.specs.Basics.{Each}
use Rattle.rules.specs.Limits.{most_energy, most_rows, most_strip}
use Rattle.rules.specs.Requests.{head_length, row_length}
use Rattle.rules.specs.Registration.{proposed}
use Rattle.image.specs.Valid.{book_in}
use Rattle.book.specs.Waits.{waits_size}
use Rattle.book.proofs.WaitLaws.{Waiting}
use Rattle.strip_rows.specs.Rows.{requests_from}
use Rattle.strips.specs.Ready.{proposer, proposed_rows}
use Rattle.strips.proofs.ReadyLaws.{OwnRow}
use Rattle.strips.proofs.waits.fill_all_waits.Given as goal

abbrev pub invariant-loop-i : goal.invariant-loop-i
invariant-loop-i l =
    let b = book_in l.book in
    let k = head_length + row_length * l.i in
    Each (OwnRow b.setup (proposer l.bytes l.n)) (requests_from l.bytes k (l.n - l.i))
    × (l.n ≤ most_strip)
    × (length b.part.rows ≤ most_rows)
    × (length l.table ≡ waits_size)
    × Waiting (proposer l.bytes l.n) (b.part.rows ++ proposed_rows l.bytes l.n) (map proposed (requests_from l.bytes k (l.n - l.i))) l.table ((length b.part.rows + l.i) * most_energy)
