-- An operator without a fault is passed over, and the first with one decides.
use Prim.Native.Nat.{◌+◌, ◌-◌, ◌*◌}
use Rattle.rules.specs.Opening.{operator_in, operator_values, operator_entry}
use Rattle.setup.specs.Faults.{operator_faults}
use Rattle.setup.proofs.FaultLaws.{EntriesLeft}
use Rattle.setup.proofs.fault.operator_faults.Given as goal

abbrev pub invariant-loop-operator : goal.invariant-loop-operator
invariant-loop-operator l = EntriesLeft operator_entry operator_in operator_values l.setup (operator_faults l.setup) (l.from + operator_entry * l.operator) (l.operator-end - l.operator)
