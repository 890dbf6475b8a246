-- The rows of a strip are bytes where the strip is.
use Prim.Native.Nat.{ℕ, zero, suc}
use mathlib.Core.List.{List}
use Rattle.wire.specs.Numbers.{Bytes}
use Rattle.wire.specs.Parts.{chunks}
use Rattle.wire.proofs.NumberLaws.{bytes_take, bytes_drop}
use Rattle.rules.specs.Basics.{Each, nil, cons}
use Rattle.rules.specs.Requests.{head_length, row_length, strip_count, strip_rows}

-- cells of bytes are bytes
pub chunks_bytes : (w n : ℕ) {s : List ℕ} → Bytes s → Each Bytes (chunks w n s)
unfolding chunks
chunks_bytes w zero h = nil
chunks_bytes w (suc n) h = cons (bytes_take w h) (chunks_bytes w n (bytes_drop w h))

pub rows_bytes : (s : List ℕ) → Bytes s → Each Bytes (strip_rows s)
unfolding strip_rows
rows_bytes s h = chunks_bytes row_length (strip_count s) (bytes_drop head_length h)
