-- The cells before the cursor are raised, those from it on are as they came.
use Rattle.std.proofs.Common.{◌≡◌, length}
use Rattle.image.specs.Tables.{Raised}
use Rattle.image.proofs.cells.add_range.Given as goal

abbrev pub invariant-loop-cell : goal.invariant-loop-cell
invariant-loop-cell l = record {
  as_long : length l.cell-items ≡ length l.initial.cell-items;
  raised : Raised l.initial.cell-items l.cell-items 0 l.cell-index l.q;
}
