-- What has been read is the number from `p` on, and each step puts one byte more in front.
use Prim.Native.Nat.{suc, ◌+◌, ◌-◌, ◌^◌, ◌<◌}
use mathlib.Core.Path.{◌≡◌, sym}
use native.Mathlib.Omega.{arith}
use Rattle.wire.proofs.NumberLaws.{bytes_known, number_at_zero, number_at-step, number_at_below}
use Rattle.records.proofs.reader.number_at.Goals as goal

pub loop-p-init : goal.loop-p-init
loop-p-init c = let e : c.args.at + c.args.width - (c.args.at + c.args.width) ≡ 0 = omega arith in
    (omega arith, rw e (sym (number_at_zero c.args.s.now (c.args.at + c.args.width))))

pub overflow_mul-v : goal.overflow_mul-v
overflow_mul-v c =
    let high : c.loop-p.v < 256 ^ 7 =
    rw c.loop-p.invariant.1 (number_at_below (bytes_known c.args.s.now c.type_inv.s) c.loop-p.p (c.args.at + c.args.width - c.loop-p.p) 7 (omega arith)) in
    omega (arith, high)

pub overflow_add-v : goal.overflow_add-v
overflow_add-v c =
    let high : c.loop-p.v < 256 ^ 7 =
    rw c.loop-p.invariant.1 (number_at_below (bytes_known c.args.s.now c.type_inv.s) c.loop-p.p (c.args.at + c.args.width - c.loop-p.p) 7 (omega arith)) in
    omega (arith, high, c.type_inv.s (c.loop-p.p - 1))

pub loop-p-preserved : goal.loop-p-preserved
loop-p-preserved c =
    let w : c.args.at + c.args.width - (c.loop-p.p - 1) ≡ suc (c.args.at + c.args.width - c.loop-p.p) = omega arith in
    let p : suc (c.loop-p.p - 1) ≡ c.loop-p.p = omega arith in
    (omega arith, rw (w, number_at-step, p, c.loop-p.invariant.1))
