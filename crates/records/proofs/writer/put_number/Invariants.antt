-- Putting what is left of the number from the index on gives the whole.
use Rattle.std.proofs.Common.{◌≡◌, ◌-◌, length}
use Rattle.wire.specs.Numbers.{le}
use Rattle.wire.specs.Regions.{splice}
use Rattle.records.proofs.writer.put_number.Given as goal

abbrev pub invariant-loop-byte : goal.invariant-loop-byte
invariant-loop-byte l = record {
  as_long : length l.byte-items ≡ l.width;
  put : splice l.byte-items l.byte-index (le (l.width - l.byte-index) l.rest) ≡ le l.width l.v;
}
