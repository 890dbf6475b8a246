-- Those tested so far and those that are left come to what all come to.
use Prim.Native.Nat.{◌-◌}
use native.Mathlib.Omega.{arith}
use Rattle.setup.proofs.FaultLaws.{no_margins_left, margin_tested}
use Rattle.setup.proofs.values.margins_fine.Goals as goal

pub loop-k-preserved : goal.loop-k-preserved
loop-k-preserved c =
    margin_tested _ _ (c.args.count - c.loop-k.k - 1) c.loop-k.invariant (omega arith) c.margin_at-x.ensures (omega arith) (omega arith)

pub returns : goal.returns
returns c = no_margins_left _ _ c.loop-k.invariant (omega arith)
