-- Demand 2: "Requests written by us read back as the same request, and an accepted reading writes back as the same bytes."
-- Said of what the contracts of the writer (`write_outcome`, `written`) and of the reader (`reading`) promise.
use Rattle.std.specs.Prelude.{Ok}
use Prim.Native.Nat.{ℕ, ◌≤◌}
use mathlib.Core.Path.{◌≡◌, sym, ap, ◌∙◌}
use mathlib.Core.List.{List, ◌++◌}
use native.Mathlib.Omega.{arith}
use lib.ListN.{length, take, drop}
use lib.Seq.{take_at}
use Rattle.wire.specs.Numbers.{Bytes}
use Rattle.rules.specs.declared.Request.{Request}
use Rattle.rules.specs.Verdicts.{accepted}
use Rattle.rules.specs.Requests.{wanted_length, reading, write, write_outcome, written, filled, Canonical, Fits}
use Rattle.rules.proofs.Records.Fields.{length-write}
use Rattle.rules.proofs.Records.RoundTrip.{written_reads_back, read_writes_back, read_is_known}
use Rattle.records.proofs.WritingLaws.{writes_front, accepted_writing}

-- "Requests written by us read back as the same request": of a buffer that was written, the first bytes, as many as the kind's
-- record has, read as the request. It is one whose other fields are 0 and whose fields fit their bytes.
pub written_request_reads_back : (q : Request) (buffer : List ℕ) → Canonical q → Fits q → write_outcome q buffer ≡ accepted 0
    → reading (take (wanted_length q.kind) (written q buffer)) ≡ Ok q
written_request_reads_back q buffer c f h =
    let (known, room) = accepted_writing q buffer h in
    let record-first = take_at (write q) (drop (length (write q)) buffer) (wanted_length q.kind) (length-write q known) in
    rw (← (writes_front q buffer known room).1) (ap reading record-first ∙ written_reads_back q known c f)

-- what was read has a kind, and the bytes of its record are those that were read
room_again : (s buffer : List ℕ) (q : Request) → Bytes s → reading s ≡ Ok q → length s ≤ length buffer → wanted_length q.kind ≤ length buffer
room_again s buffer q b e h = omega (arith, length-write q (read_is_known s q e), ap length (read_writes_back s q b e))

-- "an accepted reading writes back as the same bytes": what was read is written into any buffer that has room for it, the same
-- bytes first and the buffer's others unchanged,
pub accepted_reading_writes_back : (s buffer : List ℕ) (q : Request) → Bytes s → reading s ≡ Ok q → length s ≤ length buffer
    → written q buffer ≡ s ++ drop (length s) buffer
accepted_reading_writes_back s buffer q b e h =
    sym (writes_front q buffer (read_is_known s q e) (room_again s buffer q b e h)).1
    ∙ ap (λ (front : List ℕ). filled front buffer) (read_writes_back s q b e)

-- and the writer accepts it
pub accepted_reading_is_written : (s buffer : List ℕ) (q : Request) → Bytes s → reading s ≡ Ok q → length s ≤ length buffer
    → write_outcome q buffer ≡ accepted 0
accepted_reading_is_written s buffer q b e h = sym (writes_front q buffer (read_is_known s q e) (room_again s buffer q b e h)).0
