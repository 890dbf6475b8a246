-- The set-up's section of a book is that of its image exactly where it passes its tests: zeros past the set-up, and no guarantee in it;
-- and then the set-up is sound exactly where opening would accept its bytes.
use Rattle.std.specs.Prelude.{None}
use Prim.Native.Nat.{ℕ, zero, suc, ◌+◌, ◌-◌, ◌*◌, ◌≤◌}
use mathlib.Core.Path.{◌≡◌, refl, sym, ap, ◌∙◌}
use mathlib.Core.Logic.{◌↔◌}
use mathlib.Core.List.{List, ◌∷◌, map}
use mathlib.Core.Bool.{true, ◌&&◌}
use native.Mathlib.Nat.{zero-add}
use native.Mathlib.Omega.{arith}
use lib.ListN.{length, get_or, take, drop, replicate, length-drop, take-append-drop}
use lib.Seq.{take-take, length-take-le, take_all, drop-drop, drop_at}
use Rattle.wire.specs.Numbers.{number, number_at, le, Bytes}
use Rattle.wire.specs.Regions.{zeros_from}
use Rattle.wire.specs.Parts.{zeros, padded, chunks}
use Rattle.wire.proofs.NumberLaws.{number-le, le_number_wide, bytes_take, bytes_drop}
use Rattle.wire.proofs.ZeroLaws.{le_zero, zeros_read, zeros_tested}
use Rattle.wire.proofs.PartLaws.{inner}
use Rattle.units.specs.declared.Cents.{Cents}
use Rattle.units.specs.Units.{cents}
use Rattle.rules.specs.declared.Counts.{Counts}
use Rattle.rules.specs.Basics.{entries}
use Rattle.rules.specs.Books.{Setup}
use Rattle.rules.specs.Opening.{setup_refusal, counts_in, operators_offset, setup_length, operator_in, operators_in, setup_of, guarantees_of, operator_entry, guarantee_width}
use Rattle.rules.proofs.Basics.Tests.{and_both}
use Rattle.rules.proofs.Setups.SetupEntries.{entries_first, counts_of_setup, operator_at}
use Rattle.image.specs.Layout.{setup_room}
use Rattle.image.specs.Image.{stored_setup}
use Rattle.image.specs.Valid.{setup_ok}
use Rattle.image.proofs.Sound.Soundness.{SoundSetup, sound_setup}
use Rattle.image.proofs.Writing.Sizes.{length_stored, sound_short}
use Rattle.image.proofs.Setups.StoredSetup.{guarantees_back}
use Rattle.image.proofs.Setups.SetupAgain.{NoGuarantees, setup_again, counts_first_bytes, setup_short, accepted_sound, front_sound, front_accepted}
use Rattle.image.proofs.Reading.Places.{counts_at}
use Rattle.audit.specs.Exact.{no_guarantees}

-- ---- no guarantee in the set-up

-- the guarantee of an operator is none where its bytes are zero
lodged_none : (s : List ℕ) (at : ℕ) → Bytes s → at + operator_entry ≤ length s → (zeros_from s at guarantee_width ≡ true) ↔ ((operator_in (take operator_entry (drop at s))).guarantee ≡ cents 0)
unfolding number_at
lodged_none s at b l =
    let x : List ℕ = take guarantee_width (drop at s) in
    let lx : length x ≡ guarantee_width = length-take-le guarantee_width (drop at s) (omega (arith, length-drop at s)) in
    let e : le guarantee_width (number x) ≡ x = le_number_wide (bytes_take 8 (bytes_drop at b)) guarantee_width lx in
    rw (operator_at s at) (
      (λ (t : zeros_from s at guarantee_width ≡ true). ap (λ (y : List ℕ). cents (number y)) (zeros_read guarantee_width s at (omega arith) t ∙ sym (le_zero guarantee_width)) ∙ ap cents (number-le guarantee_width 0 (omega arith))),
      (λ (g : cents (number x) ≡ cents 0). zeros_tested guarantee_width s at (omega arith) (sym e ∙ ap (λ (y : Cents). le guarantee_width y.0) g ∙ le_zero guarantee_width)),
    )

no_guarantees_lem : (n : ℕ) (s : List ℕ) (at : ℕ) → Bytes s → at + operator_entry * n ≤ length s
    → (no_guarantees s at n ≡ true) ↔ (map (λ x. x.guarantee) (entries operator_entry operator_in n (drop at s)) ≡ replicate n (cents 0))
unfolding no_guarantees entries chunks
no_guarantees_lem zero s at b l = ((λ t. refl), (λ e. refl))
no_guarantees_lem (suc n) s at b l =
    let one = lodged_none s at b (omega arith) in
    let more = no_guarantees_lem n s (at + operator_entry) b (omega arith) in
    let both = and_both (zeros_from s at guarantee_width) (no_guarantees s (at + operator_entry) n) in
    rw (drop-drop operator_entry at s) (
      (λ (t : zeros_from s at guarantee_width && no_guarantees s (at + operator_entry) n ≡ true). let w = both.0 t in rw (one.0 w.0, more.0 w.1)),
      (λ (e : (operator_in (take operator_entry (drop at s))).guarantee ∷ map (λ x. x.guarantee) (entries operator_entry operator_in n (drop (at + operator_entry) s)) ≡ cents 0 ∷ replicate n (cents 0)).
          both.1 (one.1 (ap (λ (y : List Cents). get_or y 0 (cents 0)) e), more.1 (ap (drop 1) e))),
    )

-- ---- the set-up's section

module _ (s : List ℕ) (b : Bytes s) (l : setup_room ≤ length s) (k : SoundSetup (setup_of (take setup_room s))) where
  abbrev first : List ℕ
  first = take setup_room s

  abbrev n : Counts
  n = counts_in s

  abbrev u : Setup
  u = setup_of first

  counts : counts_in first ≡ n
  counts = counts_first_bytes setup_room s (omega arith)

  length_first : length first ≡ setup_room
  length_first = length-take-le setup_room s l

  stored_length : length (stored_setup u) ≡ setup_length n
  stored_length = length_stored u k.estimates_all k.margins_all ∙ ap setup_length (counts_of_setup first ∙ counts)

  inside : setup_length n ≤ setup_room
  inside = setup_short s k

  guarantees_at : guarantees_of first ≡ map (λ x. x.guarantee) (entries operator_entry operator_in n.operators (drop (operators_offset n) s))
  unfolding guarantees_of operators_in
  guarantees_at =
      let i = inside in
      ap (λ (c : Counts). map (λ x. x.guarantee) (entries operator_entry operator_in c.operators (drop (operators_offset c) first))) counts
      ∙ ap (map (λ x. x.guarantee)) (entries_first operator_entry operator_in n.operators (operators_offset n) setup_room s (omega arith))

  no_guarantees_test : (no_guarantees s (operators_offset n) n.operators ≡ true) ↔ (map (λ x. x.guarantee) (entries operator_entry operator_in n.operators (drop (operators_offset n) s)) ≡ replicate n.operators (cents 0))
  no_guarantees_test = let i = inside in no_guarantees_lem n.operators s (operators_offset n) b (omega arith)

  lodged_here : no_guarantees s (operators_offset n) n.operators ≡ true → NoGuarantees first
  lodged_here g = guarantees_at ∙ no_guarantees_test.0 g ∙ ap (λ (c : Counts). replicate c.operators (cents 0)) (sym counts)

  rest_place : drop (setup_length n) first ≡ take (setup_room - setup_length n) (drop (setup_length n) s)
  rest_place =
      let i = inside in
      sym (take_all (setup_room - setup_length n) (drop (setup_length n) first) (omega (arith, length_first, length-drop (setup_length n) first)))
      ∙ inner (setup_room - setup_length n) (setup_length n) setup_room 0 s (omega arith)
      ∙ rw (zero-add (setup_length n))

  pub setup_exact : padded setup_room (stored_setup u) ≡ first
      → (zeros_from s (setup_length n) (setup_room - setup_length n) ≡ true) × (no_guarantees s (operators_offset n) n.operators ≡ true)
  unfolding padded
  setup_exact e =
      let i = inside in
      let z : drop (setup_length n) first ≡ zeros (setup_room - setup_length n) =
      ap (drop (setup_length n)) (sym e) ∙ drop_at (stored_setup u) _ (setup_length n) stored_length ∙ rw stored_length in
      let g : guarantees_of first ≡ replicate n.operators (cents 0) =
      ap guarantees_of (sym e) ∙ guarantees_back u k ∙ ap (λ (m : ℕ). replicate m (cents 0)) (counts_at s) in
      (zeros_tested (setup_room - setup_length n) s (setup_length n) (omega arith) (sym rest_place ∙ z), no_guarantees_test.1 (sym guarantees_at ∙ g))

  pub exact_setup : zeros_from s (setup_length n) (setup_room - setup_length n) ≡ true → no_guarantees s (operators_offset n) n.operators ≡ true
      → padded setup_room (stored_setup u) ≡ first
  unfolding padded
  exact_setup t g =
      let i = inside in
      let z = rest_place ∙ zeros_read (setup_room - setup_length n) s (setup_length n) (omega arith) t in
      let none_there = lodged_here g in
      let again : stored_setup u ≡ take (setup_length n) first =
      setup_again first (bytes_take setup_room b) (omega (arith, length_first, ap setup_length counts)) none_there
      ∙ ap (λ (c : Counts). take (setup_length c) first) counts in
      rw (stored_length, again, ← z) (take-append-drop (setup_length n) first)

-- ---- the set-up's bytes in a book

-- a book's set-up is sound where opening would accept the bytes that its counts say
module _ (s : List ℕ) (b : Bytes s) (l : setup_room ≤ length s) where
  abbrev whole : List ℕ
  whole = take (setup_length (counts_in s)) s

  again : setup_length (counts_in s) ≤ setup_room → whole ≡ take (setup_length (counts_in (take setup_room s))) (take setup_room s)
  again h =
      sym (ap (λ (c : Counts). take (setup_length c) (take setup_room s)) (counts_first_bytes setup_room s (omega arith)) ∙ take-take (setup_length (counts_in s)) setup_room s h)

  pub setup_sound_in : setup_refusal whole ≡ None → setup_ok (setup_of (take setup_room s)) ≡ true
  setup_sound_in h =
      let k = sound_setup (setup_of whole) (accepted_sound whole h) in
      let e = ap setup_length (counts_of_setup whole ∙ counts_first_bytes (setup_length (counts_in s)) s (omega arith)) in
      let short : setup_length (counts_in s) ≤ setup_room = omega (arith, e, sound_short (setup_of whole) k) in
      front_sound (take setup_room s) (ap setup_refusal (sym (again short)) ∙ h)

  pub setup_accepted_in : no_guarantees s (operators_offset (counts_in s)) (counts_in s).operators ≡ true → setup_ok (setup_of (take setup_room s)) ≡ true
      → setup_refusal whole ≡ None
  setup_accepted_in g h =
      let k = sound_setup (setup_of (take setup_room s)) h in
      let short = inside s b l k in
      let none_there = lodged_here s b l k g in
      ap setup_refusal (again short)
      ∙ front_accepted (take setup_room s) (omega (arith, length_first s b l k, ap setup_length (counts s b l k))) none_there h
