-- The sum so far, and what the rows that are left add, make what all rows add.
use Prim.Native.Nat.{◌+◌, ◌-◌, ◌*◌}
use mathlib.Core.Path.{◌≡◌}
use native.Mathlib.Nat.{zero-add}
use native.Mathlib.Omega.{arith}
use Rattle.wire.proofs.NumberLaws.{bytes_known}
use Rattle.rules.specs.Requests.{head_length, row_length}
use Rattle.book.proofs.WorthParts.{sound_row_in_range}
use Rattle.strip_rows.proofs.RowSteps.{any_register}
use Rattle.strips.proofs.ReadyLaws.{ready_sound}
use Rattle.strips.proofs.LoopLaws.{first_has, sum_step, sum_done}
use Rattle.strips.proofs.cover.strip_sales.Goals as goal

pub loop-i-init : goal.loop-i-init
loop-i-init c =
    let start-place : head_length + row_length * 0 ≡ head_length = omega arith in
    let all : c.args.n - 0 ≡ c.args.n = omega arith in
    rw (start-place, all) (ready_sound _ _ _ (bytes_known _ c.type_inv.bytes) c.requires.1, omega arith, zero-add _)

pub row_request-q-requires : goal.row_request-q-requires
row_request-q-requires c =
    any_register _ head_length c.args.n c.loop-i.i (omega arith) c.requires.1.is_strip.rows

pub sale_of-requires : goal.sale_of-requires
sale_of-requires c =
    let here = (first_has _ (head_length + row_length * c.loop-i.i) (c.args.n - c.loop-i.i) (c.args.n - (c.loop-i.i + 1)) (omega arith) c.row_request-q.ensures c.loop-i.invariant.0).0 in
    (c.requires.0, rw c.proposed_row.ensures (sound_row_in_range _ _ here))

pub loop-i-preserved : goal.loop-i-preserved
loop-i-preserved c =
    let k = head_length + row_length * c.loop-i.i in
    let left = c.args.n - c.loop-i.i in
    let fewer = c.args.n - (c.loop-i.i + 1) in
    let next : head_length + row_length * (c.loop-i.i + 1) ≡ k + row_length = omega arith in (
      rw next (first_has _ k left fewer (omega arith) c.row_request-q.ensures c.loop-i.invariant.0).1,
      omega (arith, c.add-sum.ensures, c.sale_of.ensures.bounded, c.loop-i.invariant.1),
      rw next (sum_step _ k left fewer (omega arith) c.row_request-q.ensures c.proposed_row.ensures _ _ _ _ _ c.add-sum.ensures c.sale_of.ensures.meaning c.loop-i.invariant.2),
    )

pub returns : goal.returns
returns c =
    record { meaning = sum_done _ _ (c.args.n - c.loop-i.i) (omega arith) _ _ _ c.loop-i.invariant.2; bounded = omega (arith, c.loop-i.invariant.1, c.requires.1.is_strip.few_rows) }
