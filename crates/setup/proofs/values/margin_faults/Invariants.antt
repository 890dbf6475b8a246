-- Where all are in range none is at fault. Else a margin without a fault is passed over, and the first with one decides.
use Prim.Native.Nat.{◌+◌, ◌-◌, ◌*◌}
use Rattle.rules.specs.Opening.{margin_in, margin_values, margin_width}
use Rattle.setup.specs.Faults.{margin_faults}
use Rattle.setup.proofs.FaultLaws.{EntriesLeft}
use Rattle.setup.proofs.values.margin_faults.Given as goal

abbrev pub invariant-loop-k : goal.invariant-loop-k
invariant-loop-k l =
    EntriesLeft margin_width margin_in margin_values l.setup (margin_faults l.setup l.from l.count) (l.from + margin_width * l.k) (l.count - l.k)
