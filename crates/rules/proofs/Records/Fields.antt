-- A record's fields lie side by side: each begins where the one before it ends, and takes the room that its bit gives it.
use Rattle.std.specs.Prelude.{if◌then◌else◌}
use Prim.Native.Nat.{ℕ, zero, suc, ◌+◌, ◌-◌, ◌%◌, ◌^◌, ◌<◌, ◌≤◌}
use mathlib.Core.Path.{◌≡◌, refl, sym, ap, ◌∙◌}
use mathlib.Core.List.{List, map}
use mathlib.Core.Bool.{Bool, true, false}
use native.Mathlib.Nat.{zero-add, add-zero, one-le-pow}
use native.Mathlib.Omega.{arith}
use lib.ListN.{length, get_or, take, drop, length-append}
use lib.Seq.{take_at, drop_at, drop-drop, ext_get_or}
use Rattle.wire.specs.Numbers.{number, number_at, le, Bytes, none}
use Rattle.wire.proofs.NumberLaws.{length-le, number-le, number_le_rest, number_at_zero, number_at_small, bytes_le, bytes_append}
use Rattle.wire.proofs.SlotLaws.{map_get}
use Rattle.units.specs.Units.{kwh, cents, cents_per_mwh}
use Rattle.rules.specs.declared.Request.{Request}
use Rattle.rules.specs.Basics.{total, counting, bit}
use Rattle.rules.specs.Requests.{is_single, wanted_map, wanted_length, width_of, field_count, map_of, room, offset, field_in, request_of, fields_of, field_of, field_bytes, write, Canonical, Fits}
use Rattle.rules.proofs.Basics.Searches.{counting_at, counting-length}
use Rattle.rules.proofs.Basics.Totals.{total_last}
use Rattle.rules.proofs.Checks.KindTables.{tables_agree}

-- ---- where fields begin

across : (n k : ℕ) → suc n + k ≡ n + suc k
across n k = omega arith

-- the first begins past the map
pub offset_first : (m : ℕ) → offset m 0 ≡ 2
unfolding offset total counting
offset_first m = refl

-- a field begins where the one before it ends
pub offset_step : (m k : ℕ) → offset m (suc k) ≡ offset m k + room m k
unfolding offset
offset_step m k = omega (arith, total_last (room m) k 0, ap (room m) (zero-add k))

-- a field begins no later than those behind it
pub offset_grows : (m k n : ℕ) → k ≤ n → offset m k ≤ offset m n
offset_grows m k n h = let e : k + (n - k) ≡ n = omega arith in omega (arith, by_steps k (n - k), ap (offset m) e)
  where
    by_steps : (k d : ℕ) → offset m k ≤ offset m (k + d)
    by_steps k zero = omega (arith, ap (offset m) (add-zero k))
    by_steps k (suc d) = omega (arith, offset_step m k, by_steps (suc k) d, ap (offset m) (across k d))

-- a field lies within the record
pub field_within : (m k : ℕ) → k < field_count → offset m k + room m k ≤ offset m field_count
field_within m k h = omega (arith, offset_step m k, offset_grows m (suc k) field_count (omega arith))

-- ---- what a record holds

at_room : (b : Bool) (s : List ℕ) (at w : ℕ) → (if b then number_at s at w else 0) ≡ number_at s at (if b then w else 0)
at_room true s at w = refl
at_room false s at w = sym (number_at_zero s at)

-- a field is the number in its room, be it none
pub field_in-room : (s : List ℕ) (k : ℕ) → field_in s k ≡ number_at s (offset (map_of s) k) (room (map_of s) k)
unfolding field_in room
field_in-room s k = at_room (bit (map_of s) k) s (offset (map_of s) k) (width_of k)

pub field_in_absent : (s : List ℕ) (k : ℕ) → bit (map_of s) k ≡ false → field_in s k ≡ 0
unfolding field_in
field_in_absent s k e = rw e

fits_width : (b : Bool) (x w : ℕ) → x < 256 ^ w → (if b then x else 0) < 256 ^ w
fits_width true x w h = h
fits_width false x w h = one-le-pow w 256 (omega arith)

pub field_in_fits : {s : List ℕ} → Bytes s → (k : ℕ) → field_in s k < 256 ^ width_of k
unfolding field_in
field_in_fits {s} h k =
    fits_width (bit (map_of s) k) (number_at s (offset (map_of s) k) (width_of k)) (width_of k) (number_at_small h (offset (map_of s) k) (width_of k))

-- ---- a request by its fields

get-counting : (f : ℕ → ℕ) (n from k : ℕ) → k < n → get_or (map f (counting n from)) k 0 ≡ f (from + k)
get-counting f n from k h = map_get f (counting n from) k 0 0 (rw counting-length h) ∙ ap f (counting_at n from 0 k h)

pub field_of_request : (s : List ℕ) (k : ℕ) → k < field_count → field_of (request_of s) k ≡ field_in s k
unfolding request_of counting
field_of_request s k h = get-counting (field_in s) field_count 0 k h ∙ ap (field_in s) (zero-add k)

-- the request with these fields
abbrev with_fields : List ℕ → Request
with_fields l =
    record {
      kind = get_or l 0 0;
      account = get_or l 1 0;
      other = get_or l 2 0;
      code = get_or l 3 0;
      side = get_or l 4 0;
      first = get_or l 5 0;
      last = get_or l 6 0;
      quantity = kwh (get_or l 7 0);
      number = get_or l 8 0;
      operator = get_or l 9 0;
      guarantee = cents (get_or l 10 0);
      point = get_or l 11 0;
      price = cents_per_mwh (get_or l 12 0);
    }

pub same_fields : (p q : Request) → ((k : ℕ) → k < field_count → field_of p k ≡ field_of q k) → p ≡ q
same_fields p q h = ap with_fields (ext_get_or 0 (fields_of p) (fields_of q) refl h)

-- ---- the bytes of fields

pub length_fields : (m : ℕ) (q : Request) (k n : ℕ) → offset m k + length (field_bytes m q k n) ≡ offset m (k + n)
unfolding field_bytes
length_fields m q k zero = omega (arith, ap (offset m) (add-zero k))
length_fields m q k (suc n) =
    omega (arith, length-append (le (room m k) (field_of q k)) (field_bytes m q (suc k) n), length-le (room m k) (field_of q k), offset_step m k, length_fields m q (suc k) n, ap (offset m) (across k n))

-- the first of them, and those past it
pub take_fields : (m : ℕ) (q : Request) (k n : ℕ) → take (room m k) (field_bytes m q k (suc n)) ≡ le (room m k) (field_of q k)
unfolding field_bytes
take_fields m q k n = take_at (le (room m k) (field_of q k)) (field_bytes m q (suc k) n) (room m k) (length-le (room m k) (field_of q k))

pub drop_fields : (m : ℕ) (q : Request) (k n : ℕ) → drop (room m k) (field_bytes m q k (suc n)) ≡ field_bytes m q (suc k) n
unfolding field_bytes
drop_fields m q k n = drop_at (le (room m k) (field_of q k)) (field_bytes m q (suc k) n) (room m k) (length-le (room m k) (field_of q k))

pub bytes_fields : (m : ℕ) (q : Request) (k n : ℕ) → Bytes (field_bytes m q k n)
unfolding field_bytes
bytes_fields m q k zero = none
bytes_fields m q k (suc n) = bytes_append (bytes_le (room m k) (field_of q k)) (bytes_fields m q (suc k) n)

-- ---- a request that is written

module _ (q : Request) where
  pub bytes_write : Bytes (write q)
  unfolding write
  bytes_write = bytes_append (bytes_le 2 (wanted_map q.kind)) (bytes_fields (wanted_map q.kind) q 0 field_count)

  length_of_write : length (write q) ≡ offset (wanted_map q.kind) field_count
  unfolding write
  length_of_write =
      let m : ℕ = wanted_map q.kind in
      length-append (le 2 m) (field_bytes m q 0 field_count)
      ∙ omega (arith, length-le 2 m, offset_first m, length_fields m q 0 field_count)

  -- past the map stand all fields
  past_map : drop (offset (wanted_map q.kind) 0) (write q) ≡ field_bytes (wanted_map q.kind) q 0 field_count
  unfolding write
  past_map =
      let m : ℕ = wanted_map q.kind in
      rw (offset_first m) (drop_at (le 2 m) (field_bytes m q 0 field_count) 2 (length-le 2 m))

  -- past the fields of lower bits stand those of the bits from k on
  pub drop_write : (k n : ℕ) → k + n ≡ field_count → drop (offset (wanted_map q.kind) k) (write q) ≡ field_bytes (wanted_map q.kind) q k n
  drop_write zero n e = past_map ∙ ap (field_bytes (wanted_map q.kind) q 0) (sym (sym (zero-add n) ∙ e))
  drop_write (suc k) n e =
      let m : ℕ = wanted_map q.kind in
      rw (offset_step, ← drop-drop, drop_write k (suc n) (omega arith)) (drop_fields m q k n)

  module _ (h : is_single q.kind ≡ true) where
    pub length-write : length (write q) ≡ wanted_length q.kind
    length-write = length_of_write ∙ sym (tables_agree q.kind h).ends

    -- the map reads back
    pub map_in_write : map_of (write q) ≡ wanted_map q.kind
    unfolding map_of number_at write
    map_in_write =
        let m : ℕ = wanted_map q.kind in
        ap number (take_at (le 2 m) (field_bytes m q 0 field_count) 2 (length-le 2 m)) ∙ number-le 2 m (omega (arith, (tables_agree q.kind h).small))

    -- a field reads back as far as its room holds it
    pub field_in-write : (k : ℕ) → k < field_count → field_in (write q) k ≡ field_of q k % 256 ^ room (wanted_map q.kind) k
    unfolding number_at
    field_in-write k l =
        let m : ℕ = wanted_map q.kind in
        let e : k + suc (12 - k) ≡ field_count = omega arith in
        field_in-room (write q) k
        ∙ rw (map_in_write, drop_write k (suc (12 - k)) e, take_fields m q k (12 - k)) (number_le_rest (room m k) (field_of q k))

-- a field of a canonical request fits its room, be it none
fits_room : (b : Bool) (x w : ℕ) → (b ≡ false → x ≡ 0) → x < 256 ^ w → x < 256 ^ (if b then w else 0)
fits_room true x w absent h = h
fits_room false x w absent h = omega (arith, absent refl)

pub canonical_fits : (q : Request) → Canonical q → Fits q → (k : ℕ) → k < field_count → field_of q k < 256 ^ room (wanted_map q.kind) k
unfolding Canonical Fits room
canonical_fits q c f k h = fits_room (bit (wanted_map q.kind) k) (field_of q k) (width_of k) (c k h) (f k h)
