-- After each row, what the table holds and the sums of the rows that are left together are the sums of all rows.
use Prim.Native.Nat.{◌+◌, ◌-◌, ◌*◌, ◌≤◌}
use mathlib.Core.Path.{◌≡◌}
use lib.ListN.{length}
use Rattle.rules.specs.Basics.{Each}
use Rattle.rules.specs.Limits.{most_energy}
use Rattle.image.specs.Cells.{rows_from}
use Rattle.image.specs.Tables.{Tabled}
use Rattle.image.specs.Layout.{row_width}
use Rattle.tables.proofs.FillLaws.{Filling}
use Rattle.tables.proofs.sums.fill.Given as goal

abbrev pub invariant-loop-i : goal.invariant-loop-i
invariant-loop-i l =
    (l.i ≤ l.n)
    × (length l.table ≡ length l.initial.table)
    × Each (Tabled l.top) (rows_from l.s (l.at + row_width * l.i) (l.n - l.i))
    × Filling l.top (rows_from l.s l.at l.n) (rows_from l.s (l.at + row_width * l.i) (l.n - l.i)) l.table (l.i * most_energy)
