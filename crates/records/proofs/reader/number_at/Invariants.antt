-- What has been read is the number from `p` on, and each step puts one byte more in front.
use Prim.Native.Nat.{◌+◌, ◌-◌, ◌≤◌}
use mathlib.Core.Path.{◌≡◌}
use Rattle.wire.specs.Numbers.{number_at}
use Rattle.records.proofs.reader.number_at.Given as goal

abbrev pub invariant-loop-p : goal.invariant-loop-p
invariant-loop-p l = (l.at ≤ l.p) × (l.v ≡ number_at l.s l.p (l.at + l.width - l.p))
