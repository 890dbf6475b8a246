-- Written and read are each other's inverse: both lay the fields whose bit stands side by side, in bit order, each in its width.
use Rattle.std.specs.Prelude.{Ok, Option, None, Some}
use Prim.Native.Nat.{ℕ, zero, suc, ◌+◌, ◌^◌, ◌<◌, ◌≤◌}
use mathlib.Core.Path.{◌≡◌, refl, sym, ap, ◌∙◌}
use mathlib.Core.List.{List, ◌++◌}
use mathlib.Core.Bool.{true, false}
use native.Mathlib.Nat.{add-zero, mod-eq_of_lt}
use native.Mathlib.Omega.{arith}
use lib.ListN.{length, take, drop, take-append-drop, drop_of_length-le}
use lib.Seq.{drop-drop}
use lib.Dec.{leb, ltb}
use borrow.Author.Tests.{eq-eqb, le-ltb, lt-leb}
use Rattle.wire.specs.Numbers.{number_at, le, Bytes}
use Rattle.wire.proofs.NumberLaws.{le-number_at}
use Rattle.rules.specs.declared.Request.{Request}
use Rattle.rules.specs.declared.Refusal.{Refusal}
use Rattle.rules.specs.Basics.{bit}
use Rattle.rules.specs.Verdicts.{first_to_apply}
use Rattle.rules.specs.Requests.{is_single, wanted_map, wanted_length, field_count, map_of, room, offset, field_in, request_of, unreadable, read_checks, reading_of, reading, field_of, field_bytes, write, Canonical, Fits}
use Rattle.rules.proofs.Checks.Clearing.{Clear, clear, clear_applies}
use Rattle.rules.proofs.Checks.Passed.{passed_3, passed_4, passed_5_record}
use Rattle.rules.proofs.Checks.KindTables.{Agree, tables_agree}
use Rattle.rules.proofs.Records.Fields.{offset_first, offset_step, offset_grows, field_within, field_in-room, field_in_absent, field_in_fits, field_of_request, same_fields, length-write, map_in_write, field_in-write, canonical_fits}

-- ---- when a record reads

-- what the record itself is not refused for, 3 to 5; that it is readable, 2, follows, as the tables agree
pub record Readable (s : List ℕ) : Type 0 where
  pub known : is_single (field_in s 0) ≡ true
  pub mapped : map_of s ≡ wanted_map (field_in s 0)
  pub sized : length s ≡ wanted_length (field_in s 0)

passed : (s : List ℕ) → Clear (read_checks s) → Readable s
passed s h = record { known = passed_3 s h; mapped = passed_4 s h; sized = passed_5_record s h }

-- what was read is what the record's fields say
pub read_as : (s : List ℕ) (q : Request) → reading s ≡ Ok q → Readable s × (request_of s ≡ q)
unfolding reading
read_as s q e = go (first_to_apply (read_checks s)) refl e
  where
    go : (o : Option Refusal) → first_to_apply (read_checks s) ≡ o → reading_of o (request_of s) ≡ Ok q → Readable s × (request_of s ≡ q)
    go None f r = (passed s (clear (read_checks s) f), cc)
    go (Some x) f r = absurd (let z : ◌≡◌ {A = ℕ} 0 1 = cc in omega arith)

-- a map with the kind, and the kind
long_enough : (m : ℕ) → bit m 0 ≡ true → 3 ≤ offset m field_count
unfolding room
long_enough m b =
    let r : room m 0 ≡ 1 = rw b in
    omega (arith, offset_first m, offset_step m 0, offset_grows m 1 field_count (omega arith))

never_unreadable : (s : List ℕ) → Readable s → Agree (field_in s 0) → unreadable s ≡ false
unfolding unreadable
never_unreadable s r a =
    let long : 3 ≤ length s = omega (arith, long_enough (wanted_map (field_in s 0)) a.named) in
    let short : ltb (length s) 3 ≡ false = le-ltb _ _ long in
    let high : leb (2 ^ 13) (wanted_map (field_in s 0)) ≡ false = lt-leb _ _ a.small in
    rw (short, r.mapped, a.named, high)

pub reads : (s : List ℕ) → Readable s → reading s ≡ Ok (request_of s)
unfolding reading read_checks
reads s r =
    let fine = never_unreadable s r (tables_agree (field_in s 0) r.known) in
    let none-applies : Clear (read_checks s) =
    (rw fine, (rw r.known, (rw (eq-eqb _ _ r.mapped), (rw (eq-eqb _ _ r.sized), tt)))) in
    rw (clear_applies (read_checks s) none-applies)

-- such a record ends with its last field
pub record_ends : (s : List ℕ) → Readable s → length s ≡ offset (map_of s) field_count
record_ends s r = r.sized ∙ (tables_agree (field_in s 0) r.known).ends ∙ ap (λ (m : ℕ). offset m field_count) (sym r.mapped)

-- ---- a request, written and read

module _ (q : Request) (h : is_single q.kind ≡ true) (c : Canonical q) (f : Fits q) where
  pub field_reads_back : (k : ℕ) → k < field_count → field_in (write q) k ≡ field_of q k
  field_reads_back k l = field_in-write q h k l ∙ mod-eq_of_lt (canonical_fits q c f k l)

  same_request : request_of (write q) ≡ q
  same_request = same_fields (request_of (write q)) q (λ k l. field_of_request (write q) k l ∙ field_reads_back k l)

  pub written_reads_back : reading (write q) ≡ Ok q
  written_reads_back =
      let kind : field_in (write q) 0 ≡ q.kind = field_reads_back 0 (omega arith) in
      let keeps : Readable (write q) =
      record { known = rw kind h; mapped = rw kind (map_in_write q h); sized = rw kind (length-write q h) } in
      reads (write q) keeps ∙ ap Ok same_request

-- ---- a record, read and written

-- the fields of a record, written again, are its bytes
rewritten : (s : List ℕ) → Bytes s → length s ≡ offset (map_of s) field_count → (k n : ℕ) → k + n ≡ field_count
    → field_bytes (map_of s) (request_of s) k n ≡ drop (offset (map_of s) k) s
unfolding field_bytes
rewritten s b e k zero l =
    let last : length s ≤ offset (map_of s) k = omega (arith, ap (offset (map_of s)) (sym l ∙ add-zero k)) in
    sym (drop_of_length-le s last)
rewritten s b e k (suc n) l =
    let m : ℕ = map_of s in
    let at : ℕ = offset m k in
    let w : ℕ = room m k in
    let field : field_of (request_of s) k ≡ number_at s at w = field_of_request s k (omega arith) ∙ field_in-room s k in
    let within : at + w ≤ length s = omega (arith, field_within m k (omega arith)) in
    rw (field, le-number_at b at w within, rewritten s b e (suc k) n (omega arith), offset_step m k, ← drop-drop w at s) (take-append-drop w (drop at s))

-- and so is its map
map_rewritten : (s : List ℕ) → Bytes s → 2 ≤ length s → le 2 (map_of s) ≡ take 2 s
unfolding map_of
map_rewritten s b h = le-number_at b 0 2 h

all_rewritten : (s : List ℕ) → Bytes s → length s ≡ offset (map_of s) field_count
    → le 2 (map_of s) ++ field_bytes (map_of s) (request_of s) 0 field_count ≡ s
all_rewritten s b e =
    let long : 2 ≤ length s = omega (arith, offset_first (map_of s), offset_grows (map_of s) 0 field_count (omega arith)) in
    rw (map_rewritten s b long, rewritten s b e 0 field_count refl, offset_first (map_of s)) (take-append-drop 2 s)

-- the writer takes the map from the kind, which is the record's own
write_again : (s : List ℕ) → Readable s → write (request_of s) ≡ le 2 (map_of s) ++ field_bytes (map_of s) (request_of s) 0 field_count
unfolding write request_of
write_again s r = rw r.mapped

pub read_writes_back : (s : List ℕ) (q : Request) → Bytes s → reading s ≡ Ok q → write q ≡ s
read_writes_back s q b e =
    let (r, same) = read_as s q e in
    ap write (sym same) ∙ write_again s r ∙ all_rewritten s b (record_ends s r)

-- ---- what was read is a request of a known kind, with just that kind's fields, each in its bytes

module _ (s : List ℕ) (q : Request) (e : reading s ≡ Ok q) where
  pub read_field : (k : ℕ) → k < field_count → field_of q k ≡ field_in s k
  read_field k l = ap (λ (p : Request). field_of p k) (sym (read_as s q e).1) ∙ field_of_request s k l

  pub read_is_known : is_single q.kind ≡ true
  read_is_known = rw (read_field 0 (omega arith)) (read_as s q e).0.known

  pub read_is_canonical : Canonical q
  unfolding Canonical
  read_is_canonical k l absent =
      let mapped : map_of s ≡ wanted_map q.kind = rw (read_field 0 (omega arith)) (read_as s q e).0.mapped in
      read_field k l ∙ field_in_absent s k (rw mapped absent)

  pub read_fits : Bytes s → Fits q
  unfolding Fits
  read_fits b k l = rw (read_field k l) (field_in_fits b k)
