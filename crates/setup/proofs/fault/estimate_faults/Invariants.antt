-- An estimate without a fault is passed over, and the first with one decides.
use Prim.Native.Nat.{◌+◌, ◌-◌, ◌*◌}
use Rattle.rules.specs.Opening.{price_in, estimate_values, price_width}
use Rattle.setup.specs.Faults.{estimate_faults}
use Rattle.setup.proofs.FaultLaws.{EntriesLeft}
use Rattle.setup.proofs.fault.estimate_faults.Given as goal

abbrev pub invariant-loop-hour : goal.invariant-loop-hour
invariant-loop-hour l = EntriesLeft price_width price_in estimate_values l.setup (estimate_faults l.setup) (5 + price_width * l.hour) (l.hour-end - l.hour)
