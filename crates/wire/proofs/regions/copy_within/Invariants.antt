-- After i steps the first i bytes of the region are in their place, and what is still to be read is untouched, since the regions are apart.
use Rattle.std.proofs.Common.{◌≡◌, ◌≤◌, length, drop}
use Rattle.wire.specs.Regions.{pasted}
use Rattle.wire.proofs.regions.copy_within.Given as goal

abbrev pub invariant-loop-i : goal.invariant-loop-i
invariant-loop-i l = (l.i ≤ l.n) × (length l.s ≡ length l.initial.s) × (l.s ≡ pasted l.initial.s l.to (drop l.from l.initial.s) l.i)
