-- What was seen so far and what is left are together the whole answer.
use Rattle.std.proofs.Common.{◌≡◌, ◌+◌, ◌-◌, ◌&&◌}
use Rattle.wire.specs.Regions.{zeros_from}
use Rattle.wire.proofs.regions.all_zero.Given as goal

abbrev pub invariant-loop-byte : goal.invariant-loop-byte
invariant-loop-byte l = zeros_from l.s l.from l.n ≡ (l.ok && zeros_from l.s (l.from + l.byte-index) (l.n - l.byte-index))
