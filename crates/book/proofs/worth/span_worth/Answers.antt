-- A quantity in range times a sum of prices in range fits 64 bits.
use Prim.Native.Nat.{◌-◌}
use native.Mathlib.Omega.{arith}
use lib.ListN.{get_or}
use Rattle.book.proofs.WorthParts.{span_most}
use Rattle.book.proofs.worth.span_worth.Goals as goal

pub overflow_mul-result : goal.overflow_mul-result
overflow_mul-result c =
    omega (arith, span_most c.args.quantity.0 (get_or c.args.sums.now c.args.last 0 - get_or c.args.sums.now (c.args.first - 1) 0) c.requires.quantity_high (omega arith))
