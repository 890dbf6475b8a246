-- After `i` rows the first `i` keys are those of the rows.
use Prim.Native.Nat.{◌≤◌}
use Rattle.audit.specs.Twins.{Keyed}
use Rattle.audit.proofs.twins.Keys.fill.Given as goal

abbrev pub invariant-loop-i : goal.invariant-loop-i
invariant-loop-i l = (l.i ≤ l.n) × Keyed l.s l.at l.i l.self
