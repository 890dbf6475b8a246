-- After each key, a key that was found so far or is among those left is among all.
use Prim.Native.Nat.{◌+◌, ◌-◌, ◌≤◌}
use mathlib.Core.Path.{◌≡◌}
use mathlib.Core.Bool.{◌||◌}
use Rattle.audit.specs.Twins.{key_among}
use Rattle.audit.proofs.twins.Keys.repeats.Given as goal

abbrev pub invariant-loop-k : goal.invariant-loop-k
invariant-loop-k l =
    (l.k ≤ l.n) × (key_among l.self l.key (l.i + 1) (l.n - (l.i + 1)) ≡ (l.found || key_among l.self l.key l.k (l.n - l.k)))
