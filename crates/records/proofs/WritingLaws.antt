-- A record put into a buffer, field by field: what is put and what is still to be put are together the whole.
use Prim.Native.Nat.{ℕ, zero, suc, ◌+◌, ◌/◌, ◌%◌, ◌≤◌, ◌<◌}
use mathlib.Core.Path.{◌≡◌, ◌∙◌, sym, ap}
use mathlib.Core.List.{List, [], ◌∷◌}
use mathlib.Core.Bool.{true, false}
use native.Mathlib.Nat.{zero-add}
use native.Mathlib.Numerals.{add-one}
use native.Mathlib.Omega.{arith}
use lib.ListN.{length, set}
use borrow.Author.Tests.{lt-ltb, le-ltb, ltb-false, not-false}
use Rattle.wire.specs.Numbers.{le}
use Rattle.wire.specs.Regions.{splice}
use Rattle.wire.proofs.NumberLaws.{length-le}
use Rattle.wire.proofs.RegionLaws.{splice_take_drop, splice_one, splice_none, splice-append}
use Rattle.rules.specs.declared.Request.{Request}
use Rattle.rules.specs.declared.Refusal.TheVariants.{UnknownKind, BufferShort}
use Rattle.rules.specs.Verdicts.{first_to_apply, accepted, refused}
use Rattle.rules.specs.Requests.{is_single, wanted_length, wanted_map, field_count, room, field_of, field_bytes, write_checks, write_outcome, write, written, filled}
use Rattle.rules.proofs.Checks.Clearing.{accepted_none, clear, spared}

-- ---- a number put byte by byte

pub number_put : (s : List ℕ) (at n v : ℕ) → n ≤ 0 → splice s at (le n v) ≡ s
unfolding le
number_put s at zero v h = splice_none s at
number_put s at (suc n) v h = absurd (omega arith)

pub number-next : (s : List ℕ) (at n m v : ℕ) → n ≡ m + 1 → at + n ≤ length s → splice (set s at (v % 256)) (at + 1) (le m (v / 256)) ≡ splice s at (le n v)
unfolding le
number-next s at n m v e h =
    rw (e, add-one m, ← splice_one s at (v % 256) (omega arith)) (splice-append s at (v % 256 ∷ []) (le m (v / 256)) (omega arith))

-- ---- a record put field by field

pub fields_put : (m : ℕ) (q : Request) (s : List ℕ) (at k n : ℕ) → n ≤ 0 → splice s at (field_bytes m q k n) ≡ s
unfolding field_bytes
fields_put m q s at k zero h = splice_none s at
fields_put m q s at k (suc n) h = absurd (omega arith)

pub fields_next : (m : ℕ) (q : Request) (s : List ℕ) (at k n j w v : ℕ) → n ≡ j + 1 → w ≡ room m k → v ≡ field_of q k → at ≤ length s
    → splice (splice s at (le w v)) (at + w) (field_bytes m q (k + 1) j) ≡ splice s at (field_bytes m q k n)
unfolding field_bytes
fields_next m q s at k n j w v e f g h =
    let l : length (le w v) ≡ w = length-le w v in
    let t = splice-append s at (le w v) (field_bytes m q (k + 1) j) h in
    rw (e, add-one j, ← f, ← g, ← add-one k) (ap (λ (i : ℕ). splice (splice s at (le w v)) (at + i) (field_bytes m q (k + 1) j)) (sym l) ∙ t)

-- the map and the fields behind it are the record
pub record_put : (q : Request) (s : List ℕ) (m : ℕ) → m ≡ wanted_map q.kind → splice (splice s 0 (le 2 m)) 2 (field_bytes m q 0 field_count) ≡ splice s 0 (write q)
unfolding write
record_put q s m e =
    let l : 0 + length (le 2 m) ≡ 2 = omega (arith, length-le 2 m) in
    rw (← e) (ap (λ (i : ℕ). splice (splice s 0 (le 2 m)) i (field_bytes m q 0 field_count)) (sym l) ∙ splice-append s 0 (le 2 m) (field_bytes m q 0 field_count) (omega arith))

-- ---- the writer's ways out

module _ (q : Request) (buffer : List ℕ) where
  pub writes_no_kind : is_single q.kind ≡ false → (refused UnknownKind ≡ write_outcome q buffer) × (buffer ≡ written q buffer)
  unfolding write_outcome written first_to_apply
  writes_no_kind k = (rw k, rw k)

  pub writes_no_room : is_single q.kind ≡ true → length buffer < wanted_length q.kind
      → (refused BufferShort ≡ write_outcome q buffer) × (buffer ≡ written q buffer)
  unfolding write_outcome written first_to_apply
  writes_no_room k h = let t = lt-ltb (length buffer) (wanted_length q.kind) h in (rw (k, t), rw (k, t))

  pub writes_front : is_single q.kind ≡ true → wanted_length q.kind ≤ length buffer
      → (accepted 0 ≡ write_outcome q buffer) × (filled (write q) buffer ≡ written q buffer)
  unfolding write_outcome written first_to_apply
  writes_front k h = let t = le-ltb (length buffer) (wanted_length q.kind) h in (rw (k, t), rw (k, t))

  -- the same, as a region replaced
  pub writes_record : is_single q.kind ≡ true → wanted_length q.kind ≤ length buffer
      → (accepted 0 ≡ write_outcome q buffer) × (splice buffer 0 (write q) ≡ written q buffer)
  writes_record k h =
      let w = writes_front k h in
      (w.0, splice_take_drop buffer 0 (write q) ∙ rw (zero-add (length (write q))) w.1)

  -- what is accepted has a kind and room
  pub accepted_writing : write_outcome q buffer ≡ accepted 0 → (is_single q.kind ≡ true) × (wanted_length q.kind ≤ length buffer)
  unfolding write_outcome
  accepted_writing h =
      let c = clear (write_checks q buffer) (accepted_none (first_to_apply (write_checks q buffer)) 0 h) in
      (not-false _ (spared _ _ c.0), ltb-false _ _ (spared _ _ c.1.0))
