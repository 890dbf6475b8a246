-- Where all are in range none is at fault. Else a margin without a fault is passed over, and the first with one decides.
use Prim.Native.Nat.{◌-◌}
use mathlib.Core.Path.{◌∙◌, refl}
use native.Mathlib.Omega.{arith}
use Rattle.rules.proofs.Checks.PassedOn.{passed_on}
use Rattle.setup.specs.Faults.{margin_faults}
use Rattle.setup.proofs.FaultLaws.{all_left, none_left, first_clear, first_fails, no_margin_fault}
use Rattle.setup.proofs.values.margin_faults.Goals as goal

pub returns-then-margins_fine : goal.returns-then-margins_fine
returns-then-margins_fine c = no_margin_fault _ _ _ c.margins_fine.ensures c.if-margins_fine.true

pub loop-k-init : goal.loop-k-init
unfolding margin_faults
loop-k-init c = all_left c.args.from c.args.count (omega arith) (omega arith) c.requires.0 refl

pub returns-in_err-margin_fault : goal.returns-in_err-margin_fault
returns-in_err-margin_fault c =
    passed_on _ c.from_residual.ensures.1
    ∙ first_fails c.loop-k.invariant (c.args.count - c.loop-k.k - 1) (omega arith) c.margin_at.ensures c.margin_fault.ensures c.in_err-margin_fault.was

pub loop-k-preserved : goal.loop-k-preserved
loop-k-preserved c =
    first_clear c.loop-k.invariant (c.args.count - c.loop-k.k - 1) (omega arith) c.margin_at.ensures c.margin_fault.ensures (omega arith) (omega arith) c.in_ok-margin_fault.was

pub returns : goal.returns
returns c = none_left c.loop-k.invariant (omega arith)
