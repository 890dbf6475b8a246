-- The row's hours are a range of cells that begins at the cell of its first hour, on its side.
use native.Mathlib.Omega.{arith}
use borrow.Author.Rules.{rules}
use Rattle.book.proofs.waits.add_waiting.Goals as goal

pub add_range-requires : goal.add_range-requires
add_range-requires c =
    (search rules, λ k l. c.requires.0.1 k (omega arith))

pub returns : goal.returns
returns c = rw (← c.wait_cell-at.ensures) c.add_range.ensures
