-- The sum so far, and what the rows that are left add, make what all rows add.
use Prim.Native.Nat.{◌+◌, ◌-◌}
use native.Mathlib.Omega.{arith}
use Rattle.book.proofs.WorthParts.{rows_next, rows_done}
use Rattle.book.proofs.hourly.sales_of_operator.Goals as goal

pub loop-number-preserved : goal.loop-number-preserved
loop-number-preserved c = (
  c.loop-number.invariant.0,
  c.loop-number.invariant.1,
  omega arith,
  omega arith,
  omega (arith, c.add-sum.ensures, c.sale_of_row.ensures.bounded, c.loop-number.invariant.4),
  rows_next _ _ c.loop-number.number _ _ _ _ c.loop-number.invariant.2 (omega (arith, c.loop-number.invariant.0)) c.add-sum.ensures c.sale_of_row.ensures.meaning c.loop-number.invariant.5,
)

pub returns-clause-meaning : goal.returns-clause-meaning
returns-clause-meaning c =
    rows_done _ _ (c.loop-number.number - 1) _ _ (omega (arith, c.loop-number.invariant.0)) c.loop-number.invariant.5

pub returns-2-clause-meaning : goal.returns-2-clause-meaning
returns-2-clause-meaning c =
    rows_done _ _ (c.loop-number.number + 1 - 1) _ _ (omega (arith, c.loop-number.invariant.0)) (rows_next _ _ c.loop-number.number _ _ _ _ c.loop-number.invariant.2 (omega (arith, c.loop-number.invariant.0)) c.add-sum.ensures c.sale_of_row.ensures.meaning c.loop-number.invariant.5)
