-- Those tested so far and those that are left come to what all come to.
use Prim.Native.Nat.{◌+◌, ◌-◌, ◌*◌}
use Rattle.rules.specs.Opening.{margin_width}
use Rattle.setup.specs.Faults.{margins_fine}
use Rattle.setup.proofs.FaultLaws.{MarginsLeft}
use Rattle.setup.proofs.values.margins_fine.Given as goal

abbrev pub invariant-loop-k : goal.invariant-loop-k
invariant-loop-k l = MarginsLeft l.setup (margins_fine l.setup l.from l.count) l.fine (l.from + margin_width * l.k) (l.count - l.k)
