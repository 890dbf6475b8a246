-- A point without a fault is passed over, and the first with one decides.
use mathlib.Core.Path.{◌∙◌}
use Prim.Native.Nat.{ℕ, ◌-◌}
use lib.ListN.{drop}
use native.Mathlib.Omega.{arith}
use Rattle.rules.specs.declared.Counts.{Counts}
use Rattle.rules.specs.Basics.{entries}
use Rattle.rules.specs.Opening.{point_in, points_offset, accounts_in, points_in, point_values, values_of, point_entry}
use Rattle.rules.proofs.Checks.PassedOn.{passed_on}
use Rattle.setup.specs.Faults.{first_fault, point_faults}
use Rattle.setup.proofs.FaultLaws.{all_left, none_left, first_clear, first_fails, at_counts}
use borrow.Author.Rules.{rules}
use Rattle.setup.proofs.fault.point_faults.Goals as goal

pub loop-point-init : goal.loop-point-init
unfolding point_faults points_in
loop-point-init c =
    all_left c.points_offset-from.result c.args.n.points (omega arith) (omega arith) (search rules)
    (at_counts (λ (n : Counts) (at : ℕ). first_fault (values_of point_entry (point_values (accounts_in c.args.setup.now) n.zones) at (entries point_entry point_in n.points (drop at c.args.setup.now)))) points_offset c.requires.counted c.points_offset-from.ensures.0)

pub returns-in_err-point_fault : goal.returns-in_err-point_fault
returns-in_err-point_fault c =
    passed_on _ c.from_residual.ensures.1
    ∙ first_fails c.loop-point.invariant (c.args.n.points - c.loop-point.point - 1) (omega arith) c.point_at.ensures c.point_fault.ensures c.in_err-point_fault.was

pub loop-point-preserved : goal.loop-point-preserved
loop-point-preserved c =
    first_clear c.loop-point.invariant (c.args.n.points - c.loop-point.point - 1) (omega arith) c.point_at.ensures c.point_fault.ensures (omega arith) (omega arith) c.in_ok-point_fault.was

pub returns : goal.returns
returns c = none_left c.loop-point.invariant (omega arith)
