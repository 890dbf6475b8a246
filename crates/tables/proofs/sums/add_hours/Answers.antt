-- The row's hours are a range of cells that begins at the cell of its first hour.
use native.Mathlib.Omega.{arith}
use borrow.Author.Rules.{rules}
use Rattle.tables.proofs.sums.add_hours.Goals as goal

pub add_range-requires : goal.add_range-requires
add_range-requires c =
    (search rules, λ k l. c.requires.tabled.1 k (omega arith))

pub returns : goal.returns
returns c = rw (← c.cell-at.ensures.is) c.add_range.ensures
