-- The keys passed so far, from the last one back, all differ, and each has left a 1 at its mark.
use Prim.Native.Nat.{◌-◌, ◌≤◌}
use mathlib.Core.Path.{◌≡◌}
use mathlib.Core.Bool.{true}
use lib.ListN.{length}
use Rattle.audit.specs.Twins.{keys_apart, marks}
use Rattle.audit.proofs.TwinLaws.{Marked}
use Rattle.audit.proofs.twins.Keys.apart.Given as goal

abbrev pub invariant-loop-i : goal.invariant-loop-i
invariant-loop-i l = (l.i ≤ l.n) × (length l.seen ≡ marks) × (keys_apart l.self l.i (l.n - l.i) ≡ true) × Marked l.self l.i l.n l.seen
