-- Putting the fields from `k` on at `at`, where they begin, gives the whole.
use Prim.Native.Nat.{◌-◌}
use mathlib.Core.Path.{◌≡◌}
use lib.ListN.{length}
use Rattle.wire.specs.Regions.{splice}
use Rattle.rules.specs.Requests.{field_count, offset, field_bytes}
use Rattle.records.proofs.writer.put_fields.Given as goal

abbrev pub invariant-loop-k : goal.invariant-loop-k
invariant-loop-k l =
    (l.at ≡ offset l.map l.k) × (length l.buffer ≡ length l.initial.buffer) × (splice l.buffer l.at (field_bytes l.map l.q l.k (field_count - l.k)) ≡ splice l.initial.buffer 2 (field_bytes l.map l.q 0 field_count))
