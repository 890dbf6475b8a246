-- The fields below `k` have been read and `at` is where the next begins; filling in the rest gives them all.
use Prim.Native.Nat.{◌-◌}
use mathlib.Core.Path.{◌≡◌}
use mathlib.Core.List.{map}
use Rattle.rules.specs.Requests.{field_count, map_of, offset, bits, field_in}
use Rattle.records.proofs.FieldLaws.{fill}
use Rattle.records.proofs.reader.fields.Given as goal

abbrev pub invariant-loop-k : goal.invariant-loop-k
invariant-loop-k l = (l.at ≡ offset (map_of l.bytes) l.k) × (fill (field_in l.bytes) l.found l.k (field_count - l.k) ≡ map (field_in l.bytes) bits)
