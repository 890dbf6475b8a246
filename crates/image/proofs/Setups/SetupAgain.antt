-- Set-up bytes are said again by what was read from them, and opening accepts them exactly where the set-up that they say is sound.
use Rattle.std.specs.Prelude.{None}
use Prim.Native.Nat.{ℕ, ◌*◌, ◌≤◌, ◌<◌}
use mathlib.Core.Path.{◌≡◌, refl, sym, ap, ◌∙◌}
use mathlib.Core.List.{List, [], ◌∷◌, ◌++◌, map}
use mathlib.Core.Bool.{true, false, not, ◌||◌}
use native.Mathlib.Omega.{arith}
use lib.ListN.{length, get_or, take, drop, replicate, length-map, length-drop}
use lib.Seq.{take-take, take-add, get_or-take, length-take-le}
use lib.Dec.{eqb, ltb}
use borrow.Author.Tests.{eq-eqb, le-ltb, not-true}
use Rattle.wire.specs.Numbers.{le, Bytes}
use Rattle.wire.proofs.NumberLaws.{bytes_drop}
use Rattle.units.specs.declared.Cents.{Cents}
use Rattle.units.specs.Units.{cents}
use Rattle.rules.specs.declared.Counts.{Counts}
use Rattle.rules.specs.Basics.{entries, joined, Each}
use Rattle.rules.specs.Books.{operator_count, account_count, point_count}
use Rattle.rules.specs.Opening.{price_in, operator_in, margin_in, account_in, point_in, counts_in, operators_offset, accounts_offset, points_offset, setup_length, estimates_in, operators_in, accounts_in, points_in, setup_of, guarantees_of, operator_bytes, account_bytes, point_bytes, operators_of, setup_bytes, bad_counts, misshapen, faulty_offset, setup_checks, setup_refusal, price_width, operator_entry, margin_width, account_entry, point_entry, counts_width, estimates_offset}
use Rattle.rules.proofs.Basics.Tests.{◌and◌, no_more, holds_all, holds_at, or_neither}
use Rattle.rules.proofs.Basics.Searches.{each_map, each_every}
use Rattle.rules.proofs.Checks.Clearing.{clear, clear_applies, spared}
use Rattle.rules.proofs.Setups.SetupShape.{accepted_values}
use Rattle.rules.proofs.Setups.SetupEntries.{length_entries, each_entry, entries_first, joined_entries, counts_of_setup}
use Rattle.image.specs.Layout.{setup_room}
use Rattle.image.specs.Image.{stored_setup}
use Rattle.image.specs.Valid.{margins_by_hour, setup_tests, setup_ok}
use Rattle.image.proofs.Sound.Soundness.{MarginsAll, SoundSetup, margins_sound, sound_setup}
use Rattle.image.proofs.Writing.Sizes.{sound_short}
use Rattle.image.proofs.Setups.SetupRanges.{InRange, values-in_range, in_range-values, operators_again, sound_without}
use Rattle.image.proofs.Setups.StoredSetup.{price_again, operator_again, account_again, point_again}

-- ---- the bytes again

first_five : (s : List ℕ) → counts_width ≤ length s → get_or s 0 0 ∷ get_or s 1 0 ∷ get_or s 2 0 ∷ get_or s 3 0 ∷ get_or s 4 0 ∷ [] ≡ take counts_width s
first_five [] h = absurd (omega arith)
first_five (a ∷ []) h = absurd (omega arith)
first_five (a ∷ b ∷ []) h = absurd (omega arith)
first_five (a ∷ b ∷ c ∷ []) h = absurd (omega arith)
first_five (a ∷ b ∷ c ∷ d ∷ []) h = absurd (omega arith)
first_five (a ∷ b ∷ c ∷ d ∷ e ∷ s) h = refl

side_by_side : {c c' e e' o o' a a' p p' : List ℕ} → c ≡ c' → e ≡ e' → o ≡ o' → a ≡ a' → p ≡ p' → c ++ e ++ o ++ a ++ p ≡ c' ++ e' ++ o' ++ a' ++ p'
side_by_side hc he ho ha hp = rw (hc, he, ho, ha, hp)

module _ (s : List ℕ) where
  -- the operators that were read
  pub operators_read : operators_of (guarantees_of s) (setup_of s).maintenance ≡ operators_in s
  unfolding guarantees_of setup_of
  operators_read = operators_again (operators_in s)

  pub length_guarantees : length (guarantees_of s) ≡ (counts_in s).operators
  unfolding guarantees_of operators_in
  length_guarantees = simp (length-map, length_entries)

  counts_first : counts_width ≤ length s
      → (setup_of s).hours ∷ operator_count (setup_of s) ∷ account_count (setup_of s) ∷ point_count (setup_of s) ∷ (setup_of s).zones ∷ [] ≡ take counts_width s
  counts_first h =
      ap (λ (c : Counts). c.hours ∷ c.operators ∷ c.accounts ∷ c.points ∷ c.zones ∷ []) (counts_of_setup s) ∙ first_five s h

  -- each account that was read has its margins for each hour
  pub margins_by_hour_lem : Each (MarginsAll (counts_in s).hours) (accounts_in s)
  unfolding accounts_in account_in
  margins_by_hour_lem =
      let n = counts_in s in
      each_entry (account_entry n) (account_in n)
      (λ c. record { lower_all = length_entries margin_width margin_in n.hours _; upper_all = length_entries margin_width margin_in n.hours _ })
      n.accounts _

  -- with the guarantees that were read, they are the same bytes
  pub bytes_again : Bytes s → setup_length (counts_in s) ≤ length s → setup_bytes (setup_of s) (guarantees_of s) ≡ take (setup_length (counts_in s)) s
  unfolding setup_bytes setup_of estimates_in operators_in accounts_in points_in
  bytes_again b l =
      let at1 : ℕ = operators_offset (counts_in s) in
      let at2 : ℕ = accounts_offset (counts_in s) in
      let at3 : ℕ = points_offset (counts_in s) in
      let e = joined_entries 4 (λ p. le 4 p.0) price_in (counts_in s).hours (drop estimates_offset s) (bytes_drop 5 b) (omega (arith, length-drop 5 s)) price_again in
      let o = joined_entries operator_entry operator_bytes operator_in (counts_in s).operators (drop at1 s) (bytes_drop at1 b) (omega (arith, length-drop at1 s)) operator_again in
      let n = counts_in s in
      let a = joined_entries (account_entry n) account_bytes (account_in n) n.accounts (drop at2 s) (bytes_drop at2 b) (omega (arith, length-drop at2 s)) (account_again n) in
      let p = joined_entries point_entry point_bytes point_in (counts_in s).points (drop at3 s) (bytes_drop at3 b) (omega (arith, length-drop at3 s)) point_again in
      side_by_side (counts_first (omega arith)) e (ap (joined operator_bytes) operators_read ∙ o) a p
      ∙ rw (take-add at3 (point_entry * (counts_in s).points) s, take-add at2 (account_entry (counts_in s) * (counts_in s).accounts) s, take-add at1 (operator_entry * (counts_in s).operators) s, take-add 5 (4 * (counts_in s).hours) s)

  -- the day's guarantees are none, as in a stored set-up
  abbrev pub NoGuarantees : Type 0
  NoGuarantees = guarantees_of s ≡ replicate (counts_in s).operators (cents 0)

  stored_guarantees : NoGuarantees → replicate (operator_count (setup_of s)) (cents 0) ≡ guarantees_of s
  stored_guarantees z = ap (λ (c : Counts). replicate c.operators (cents 0)) (counts_of_setup s) ∙ sym z

  pub setup_again : Bytes s → setup_length (counts_in s) ≤ length s → NoGuarantees → stored_setup (setup_of s) ≡ take (setup_length (counts_in s)) s
  unfolding stored_setup
  setup_again b l z = ap (setup_bytes (setup_of s)) (stored_guarantees z) ∙ bytes_again b l

-- ---- bytes that opening accepts

module _ (s : List ℕ) (h : setup_refusal s ≡ None) where
  shape : misshapen s ≡ false
  unfolding setup_refusal
  shape = spared (misshapen s) _ (clear (setup_checks s) h).0

  accepted_counts : bad_counts (counts_in s) ≡ false
  unfolding misshapen
  accepted_counts =
      let w = (or_neither (ltb (length s) counts_width || bad_counts (counts_in s)) (not (eqb (length s) (setup_length (counts_in s))))).0 shape in
      ((or_neither (ltb (length s) counts_width) (bad_counts (counts_in s))).0 w.0).1

  pub accepted_in_range : InRange (setup_of s) (operators_in s)
  accepted_in_range = values-in_range (setup_of s) (operators_in s) (accepted_values s h)

  without : InRange (setup_of s) (operators_of (replicate (operator_count (setup_of s)) (cents 0)) (setup_of s).maintenance)
  unfolding setup_of
  without =
      let v = accepted_in_range in
      record {
        estimates_sound = v.estimates_sound;
        operators_sound = sound_without (operators_in s) v.operators_sound;
        accounts_sound = v.accounts_sound;
        points_sound = v.points_sound;
      }

  -- say a sound set-up
  pub accepted_sound : setup_ok (setup_of s) ≡ true
  unfolding setup_ok setup_of estimates_in
  accepted_sound =
      holds_all (setup_tests (setup_of s)) (
      (ap (λ (c : Counts). not (bad_counts c)) (counts_of_setup s) ∙ rw accepted_counts)
      and eq-eqb _ _ (length_entries price_width price_in (counts_in s).hours (drop estimates_offset s))
      and each_every (margins_by_hour (counts_in s).hours) (each_map (margins_sound (counts_in s).hours) (margins_by_hour_lem s))
      and (rw (in_range-values (setup_of s) _ without))
      and no_more
      )

-- sound bytes as long as their counts say, with no guarantees, are accepted
pub sound_accepted : (s : List ℕ) → length s ≡ setup_length (counts_in s) → NoGuarantees s → setup_ok (setup_of s) ≡ true → setup_refusal s ≡ None
unfolding setup_ok setup_refusal misshapen
sound_accepted s l z h =
    let bad : bad_counts (counts_in s) ≡ false = ap bad_counts (sym (counts_of_setup s)) ∙ not-true _ (holds_at 0 (setup_tests (setup_of s)) h) in
    let os : operators_of (replicate (operator_count (setup_of s)) (cents 0)) (setup_of s).maintenance ≡ operators_in s =
    ap (λ (gs : List Cents). operators_of gs (setup_of s).maintenance) (stored_guarantees s z) ∙ operators_read s in
    let v : faulty_offset (setup_of s) (operators_in s) ≡ None = ap (faulty_offset (setup_of s)) (sym os) ∙ (sound_setup (setup_of s) h).in_range in
    let short : ltb (length s) counts_width ≡ false = le-ltb (length s) counts_width (omega arith) in
    clear_applies (setup_checks s) (rw (short, bad, eq-eqb _ _ l), (rw v, tt))

-- ---- bytes in which the set-up is the first

pub counts_first_bytes : (m : ℕ) (s : List ℕ) → counts_width ≤ m → counts_in (take m s) ≡ counts_in s
counts_first_bytes m s h =
    let g : (i : ℕ) → i < 5 → get_or (take m s) i 0 ≡ get_or s i 0 = λ i l. get_or-take m s i 0 (omega arith) in
    rw (g 0 (omega arith), g 1 (omega arith), g 2 (omega arith), g 3 (omega arith), g 4 (omega arith))

module _ (r : List ℕ) where
  front : List ℕ
  front = take (setup_length (counts_in r)) r

  counts_front : counts_in front ≡ counts_in r
  unfolding front
  counts_front = counts_first_bytes (setup_length (counts_in r)) r (omega arith)

  estimates_front : estimates_in front ≡ estimates_in r
  unfolding estimates_in front
  estimates_front =
      ap (λ (c : Counts). entries price_width price_in c.hours (drop estimates_offset front)) counts_front ∙ entries_first price_width price_in (counts_in r).hours 5 (setup_length (counts_in r)) r (omega arith)

  operators_front : operators_in front ≡ operators_in r
  unfolding operators_in front
  operators_front =
      ap (λ (c : Counts). entries operator_entry operator_in c.operators (drop (operators_offset c) front)) counts_front
      ∙ entries_first operator_entry operator_in (counts_in r).operators (operators_offset (counts_in r)) (setup_length (counts_in r)) r (omega arith)

  accounts_front : accounts_in front ≡ accounts_in r
  unfolding accounts_in front
  accounts_front =
      let n = counts_in r in
      ap (λ (c : Counts). entries (account_entry c) (account_in c) c.accounts (drop (accounts_offset c) front)) counts_front
      ∙ entries_first (account_entry n) (account_in n) n.accounts (accounts_offset n) (setup_length n) r (omega arith)

  points_front : points_in front ≡ points_in r
  unfolding points_in front
  points_front =
      ap (λ (c : Counts). entries point_entry point_in c.points (drop (points_offset c) front)) counts_front
      ∙ entries_first point_entry point_in (counts_in r).points (points_offset (counts_in r)) (setup_length (counts_in r)) r (omega arith)

  pub setup_front : setup_of (take (setup_length (counts_in r)) r) ≡ setup_of r
  unfolding setup_of front
  setup_front =
      let hours : get_or front 0 0 ≡ get_or r 0 0 = ap (λ (c : Counts). c.hours) counts_front in
      let zones : get_or front 4 0 ≡ get_or r 4 0 = ap (λ (c : Counts). c.zones) counts_front in
      rw (hours, zones, estimates_front, operators_front, accounts_front, points_front)

  -- opening accepts the front of such bytes where the set-up in them is sound and no guarantee stands there
  pub front_sound : setup_refusal (take (setup_length (counts_in r)) r) ≡ None → setup_ok (setup_of r) ≡ true
  front_sound h = ap setup_ok (sym setup_front) ∙ accepted_sound _ h

  pub front_accepted : setup_length (counts_in r) ≤ length r → NoGuarantees r → setup_ok (setup_of r) ≡ true → setup_refusal (take (setup_length (counts_in r)) r) ≡ None
  unfolding front guarantees_of
  front_accepted l z h =
      sound_accepted front
      (length-take-le (setup_length (counts_in r)) r l ∙ ap setup_length (sym counts_front))
      (ap (map (λ x. x.guarantee)) operators_front ∙ z ∙ ap (λ (c : Counts). replicate c.operators (cents 0)) (sym counts_front))
      (ap setup_ok setup_front ∙ h)

-- ---- a sound set-up at the front of a book

module _ (s : List ℕ) (k : SoundSetup (setup_of (take setup_room s))) where
  counted : counts_in (take setup_room s) ≡ counts_in s
  counted = counts_first_bytes setup_room s (omega arith)

  pub setup_short : setup_length (counts_in s) ≤ setup_room
  setup_short =
      omega (arith, ap setup_length (counts_of_setup (take setup_room s) ∙ counted), sound_short (setup_of (take setup_room s)) k)

  -- what is read from all bytes is what is read from the set-up's room
  pub setup_in_front : setup_of (take setup_room s) ≡ setup_of s
  setup_in_front =
      let first : List ℕ = take setup_room s in
      sym (setup_front first)
      ∙ ap setup_of (ap (λ (c : Counts). take (setup_length c) first) counted ∙ take-take (setup_length (counts_in s)) setup_room s setup_short)
      ∙ setup_front s
