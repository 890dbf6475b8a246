-- The sum so far, and what the rows that are left add, make what all rows add.
use Prim.Native.Nat.{◌+◌, ◌-◌, ◌*◌, ◌≤◌}
use mathlib.Core.Path.{◌≡◌}
use lib.ListN.{length, drop}
use Rattle.rules.specs.Basics.{total}
use Rattle.rules.specs.Limits.{most_rows}
use Rattle.image.specs.Valid.{book_in}
use Rattle.book.specs.Worth.{sale_worth, most_sale_worth}
use Rattle.book.proofs.worth.sales_worth.Given as goal

abbrev pub invariant-loop-number : goal.invariant-loop-number
invariant-loop-number l =
    let b = book_in l.book in
    (l.rows ≡ length b.part.rows)
    × (l.rows ≤ most_rows)
    × (1 ≤ l.number)
    × (l.number ≤ l.rows + 1)
    × (l.sum.0 ≤ (l.number - 1) * most_sale_worth)
    × (l.sum.0 + total (sale_worth b.setup l.operator) (drop (l.number - 1) b.part.rows) ≡ total (sale_worth b.setup l.operator) b.part.rows)
