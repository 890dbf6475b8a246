-- An operator without a fault is passed over, and the first with one decides.
use mathlib.Core.Path.{◌∙◌}
use Prim.Native.Nat.{ℕ, ◌-◌}
use lib.ListN.{drop}
use native.Mathlib.Omega.{arith}
use Rattle.rules.specs.declared.Counts.{Counts}
use Rattle.rules.specs.Basics.{entries}
use Rattle.rules.specs.Opening.{operator_in, operators_offset, operators_in, operator_values, values_of, operator_entry}
use Rattle.rules.proofs.Checks.PassedOn.{passed_on}
use Rattle.setup.specs.Faults.{first_fault, operator_faults}
use Rattle.setup.proofs.FaultLaws.{all_left, none_left, first_clear, first_fails, at_counts}
use borrow.Author.Rules.{rules}
use Rattle.setup.proofs.fault.operator_faults.Goals as goal

pub loop-operator-init : goal.loop-operator-init
unfolding operator_faults operators_in
loop-operator-init c =
    all_left c.operators_offset-from.result c.args.n.operators (omega arith) (omega arith) (search rules)
    (at_counts (λ (n : Counts) (at : ℕ). first_fault (values_of operator_entry operator_values at (entries operator_entry operator_in n.operators (drop at c.args.setup.now)))) operators_offset c.requires.counted c.operators_offset-from.ensures)

pub returns-in_err-operator_fault : goal.returns-in_err-operator_fault
returns-in_err-operator_fault c =
    passed_on _ c.from_residual.ensures.1
    ∙ first_fails c.loop-operator.invariant (c.args.n.operators - c.loop-operator.operator - 1) (omega arith) c.operator_at.ensures c.operator_fault.ensures c.in_err-operator_fault.was

pub loop-operator-preserved : goal.loop-operator-preserved
loop-operator-preserved c =
    first_clear c.loop-operator.invariant (c.args.n.operators - c.loop-operator.operator - 1) (omega arith) c.operator_at.ensures c.operator_fault.ensures (omega arith) (omega arith) c.in_ok-operator_fault.was

pub returns : goal.returns
returns c = none_left c.loop-operator.invariant (omega arith)
