-- A point without a fault is passed over, and the first with one decides.
use Prim.Native.Nat.{◌+◌, ◌-◌, ◌*◌}
use Rattle.rules.specs.Opening.{point_in, accounts_in, point_values, point_entry}
use Rattle.setup.specs.Faults.{point_faults}
use Rattle.setup.proofs.FaultLaws.{EntriesLeft}
use Rattle.setup.proofs.fault.point_faults.Given as goal

abbrev pub invariant-loop-point : goal.invariant-loop-point
invariant-loop-point l = EntriesLeft point_entry point_in (point_values (accounts_in l.setup) l.n.zones) l.setup (point_faults l.setup) (l.from + point_entry * l.point) (l.point-end - l.point)
