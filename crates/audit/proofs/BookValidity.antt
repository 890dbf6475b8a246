-- Bytes are those of a sound book exactly where each section stands: the tests of such a book and of its image, gathered by section.
use Rattle.std.specs.Prelude.{if◌then◌else◌}
use Prim.Native.Nat.{ℕ, zero, suc, ◌+◌, ◌-◌, ◌*◌, ◌≤◌, ◌<◌}
use mathlib.Core.Path.{◌≡◌, refl, sym, ap, ◌∙◌}
use mathlib.Core.List.{List, [], ◌∷◌, map}
use mathlib.Core.Bool.{Bool, true, false, not, ◌&&◌, ◌||◌, and-true}
use native.Mathlib.Omega.{arith}
use lib.ListN.{length, get_or, take, drop, length-map}
use lib.Dec.{eqb, leb, eqb-suc-zero}
use borrow.Author.Tests.{eq-eqb, ne_eqb, lt-leb, le-leb, leb-true}
use Rattle.wire.specs.Numbers.{number_at, Bytes}
use Rattle.wire.specs.Regions.{zeros_from}
use Rattle.wire.specs.Parts.{chunks}
use Rattle.wire.proofs.SlotLaws.{length-chunks, chunks_front}
use Rattle.rules.specs.declared.Row.{Row}
use Rattle.rules.specs.Basics.{any_passes, every, all_of, is_some}
use Rattle.rules.specs.Limits.{most_hours, most_operators, most_schedules, book_size}
use Rattle.rules.specs.Books.{Setup, Part, Book}
use Rattle.rules.specs.Opening.{counts_in, setup_of}
use Rattle.rules.specs.Registration.{pending}
use Rattle.rules.proofs.Basics.Tests.{test_same, and_both, Holds, ◌and◌, no_more, all_holds, holds_all, chained_all, chain_holds, holds_chain}
use Rattle.image.specs.Layout.{schedule_width, part_size, used_size, phase_offset, flag_offset, schedule_count_offset, schedules_offset, present_offset, saved_offset}
use Rattle.image.specs.Image.{schedule_in, saved_in, decode}
use Rattle.image.specs.Valid.{schedule_ok, part_ok, follows, saved_ok, asks_ok, book_tests, book_ok, is_sound}
use Rattle.image.specs.Cells.{schedules_from, part_at}
use Rattle.image.proofs.Sound.Soundness.{sound_setup}
use Rattle.image.proofs.Round.{length_sound}
use Rattle.image.proofs.Reading.Places.{book_at, decode_places}
use Rattle.image.proofs.Setups.SetupAgain.{setup_in_front}
use Rattle.audit.specs.Exact.{part_exact, saved_exact, book_exact_tests, book_exact}
use Rattle.audit.specs.Validity.{setup_valid_tests, setup_valid, SavedCounted, rows_of, part_valid, saved_part_valid, saved_followed, schedules_valid_tests, schedules_valid, phase_valid_tests, phase_valid, asks_valid}
use Rattle.audit.proofs.Local.{is_sound_local}
use Rattle.audit.proofs.AskTests.{asks_valid_lem, valid_asks}
use Rattle.audit.proofs.PartValidity.{part_places, few_rows}
use Rattle.audit.proofs.ValidityLaws.{fails_with, setup_known}

-- ---- schedules

schedule_count_lem : (s : List ℕ) → length (book_at most_hours s).schedules ≡ number_at s schedule_count_offset 2
schedule_count_lem s =
    let room : List ℕ = take (schedule_width * most_schedules) (drop schedules_offset s) in
    length-map (chunks schedule_width (number_at s schedule_count_offset 2) room) schedule_in ∙ length-chunks schedule_width (number_at s schedule_count_offset 2) room

schedules_there : (s : List ℕ) → number_at s schedule_count_offset 2 ≤ most_schedules
    → (book_at most_hours s).schedules ≡ schedules_from s schedules_offset (number_at s schedule_count_offset 2)
unfolding schedules_from
schedules_there s h = ap (map schedule_in) (chunks_front schedule_width (number_at s schedule_count_offset 2) (schedule_width * most_schedules) (drop schedules_offset s) (omega arith))

pub too_many_schedules : (s : List ℕ) → most_schedules < number_at s schedule_count_offset 2 → false ≡ schedules_valid s
unfolding schedules_valid all_of
too_many_schedules s h = rw (lt-leb (number_at s schedule_count_offset 2) most_schedules h)

pub schedules_by_tests : (s : List ℕ) (n : ℕ) {each zeros : Bool} → n ≡ number_at s schedule_count_offset 2 → n ≤ most_schedules
    → each ≡ every (schedule_ok (setup_of s)) (schedules_from s schedules_offset n)
    → zeros ≡ zeros_from s (schedules_offset + schedule_width * n) (schedule_width * most_schedules - schedule_width * n)
    → (each && zeros) ≡ schedules_valid s
unfolding schedules_valid all_of
schedules_by_tests s n {each} {zeros} e h t z = chained_all each (zeros ∷ []) ∙ rw (t, z, ← e, le-leb n most_schedules h)

-- ---- the saved part

-- where no batch is open
pub part_without : (top : ℕ) (s : List ℕ) → get_or s flag_offset 0 ≡ 0 → saved_part_valid top s ≡ zeros_from s (saved_offset top) (part_size top)
unfolding saved_part_valid
part_without top s e = rw (eq-eqb (get_or s flag_offset 0) 0 e)

pub followed_without : (top : ℕ) (s : List ℕ) → get_or s flag_offset 0 ≡ 0 → saved_followed top s ≡ true
unfolding saved_followed
followed_without top s e = rw (eq-eqb (get_or s flag_offset 0) 0 e)

-- where one is
pub part_with_lem : (top : ℕ) (s : List ℕ) → (get_or s flag_offset 0 ≡ 0 → ⊥) → saved_part_valid top s ≡ part_valid top s (saved_offset top)
unfolding saved_part_valid
part_with_lem top s e = rw (ne_eqb (get_or s flag_offset 0) 0 e)

pub followed_with : (top : ℕ) (s : List ℕ) → (get_or s flag_offset 0 ≡ 0 → ⊥) → saved_followed top s ≡ follows (rows_of s (saved_offset top)) (rows_of s present_offset)
unfolding saved_followed
followed_with top s e = rw (ne_eqb (get_or s flag_offset 0) 0 e)

pub saved_counted : (s : List ℕ) → saved_part_valid most_hours s ≡ true → SavedCounted s
saved_counted s t e = few_rows most_hours s (saved_offset most_hours) (sym (part_with_lem most_hours s e) ∙ t)

otherwise : (n : ℕ) (a b : Bool) → (if eqb (suc n) 0 then a else b) ≡ b
otherwise n a b = rw (eqb-suc-zero n)

module _ (top : ℕ) (s : List ℕ) (few : (counts_in s).operators ≤ most_operators) (rows : List Row) where
  abbrev operators : ℕ
  operators = (counts_in s).operators

  abbrev kept : List ℕ
  kept = take (part_size top) (drop (saved_offset top) s)

  abbrev none_saved : Bool
  none_saved = zeros_from s (saved_offset top) (part_size top)

  abbrev some_saved : Bool
  some_saved = part_valid top s (saved_offset top) && follows (rows_of s (saved_offset top)) rows

  rows_there : part_valid top s (saved_offset top) ≡ true → (part_at top operators s (saved_offset top)).rows ≡ rows_of s (saved_offset top)
  rows_there t = ap (λ (p : Part). p.rows) (part_places top s (saved_offset top) operators few (few_rows top s (saved_offset top) t))

  saved_there : (n : ℕ) → saved_ok (setup_of s) rows (saved_in n top operators kept) ≡ true → saved_exact n top operators s ≡ true → (if eqb n 0 then none_saved else some_saved) ≡ true
  unfolding saved_in saved_ok saved_exact part_valid
  saved_there zero h p = p
  saved_there (suc n) h p =
      let q : Part = part_at top operators s (saved_offset top) in
      let w = (and_both (part_ok (setup_of s) q) (follows q.rows rows)).0 h in
      let t : part_valid top s (saved_offset top) ≡ true = (and_both (part_ok (setup_of s) q) (part_exact top operators s (saved_offset top))).1 (w.0, p) in
      otherwise n none_saved some_saved
      ∙ (and_both (part_valid top s (saved_offset top)) (follows (rows_of s (saved_offset top)) rows)).1 (t, ap (λ (r : List Row). follows r rows) (sym (rows_there t)) ∙ w.1)

  saved_here : (n : ℕ) → (if eqb n 0 then none_saved else some_saved) ≡ true
      → (saved_ok (setup_of s) rows (saved_in n top operators kept) ≡ true) × (saved_exact n top operators s ≡ true)
  unfolding saved_in saved_ok saved_exact part_valid
  saved_here zero t = (refl, t)
  saved_here (suc n) t =
      let q : Part = part_at top operators s (saved_offset top) in
      let v = (and_both (part_valid top s (saved_offset top)) (follows (rows_of s (saved_offset top)) rows)).0 (sym (otherwise n none_saved some_saved) ∙ t) in
      let w = (and_both (part_ok (setup_of s) q) (part_exact top operators s (saved_offset top))).0 v.0 in
      ((and_both (part_ok (setup_of s) q) (follows q.rows rows)).1 (w.0, ap (λ (r : List Row). follows r rows) (rows_there v.0) ∙ v.1), w.1)

-- the two tests of the saved part together
saved_whole : (top : ℕ) (s : List ℕ)
    → (saved_part_valid top s && saved_followed top s)
    ≡ (if eqb (get_or s flag_offset 0) 0
    then zeros_from s (saved_offset top) (part_size top)
    else (part_valid top s (saved_offset top) && follows (rows_of s (saved_offset top)) (rows_of s present_offset)))
unfolding saved_part_valid saved_followed
saved_whole top s = go (eqb (get_or s flag_offset 0) 0)
  where
    go : (t : Bool)
        → ((if t then zeros_from s (saved_offset top) (part_size top) else part_valid top s (saved_offset top)) && (t || follows (rows_of s (saved_offset top)) (rows_of s present_offset)))
        ≡ (if t
        then zeros_from s (saved_offset top) (part_size top)
        else (part_valid top s (saved_offset top) && follows (rows_of s (saved_offset top)) (rows_of s present_offset)))
    go true = and-true _
    go false = refl

-- no part is saved where the flag is 0
no_part : (n top count : ℕ) (x : List ℕ) → not (is_some (saved_in n top count x)) ≡ eqb n 0
unfolding saved_in
no_part zero top count x = refl
no_part (suc n) top count x = sym (eqb-suc-zero n)

-- ---- a book

-- each section stands
pub record Sections (s : List ℕ) : Type 0 where
  pub setup_valid : setup_valid s ≡ true
  pub part_valid : part_valid most_hours s present_offset ≡ true
  pub saved_valid : saved_part_valid most_hours s ≡ true
  pub followed : saved_followed most_hours s ≡ true
  pub schedules_valid : schedules_valid s ≡ true
  pub phase_valid : phase_valid s ≡ true
  pub asks_valid_lem : asks_valid most_hours s ≡ true
  pub spare_zero : zeros_from s (used_size most_hours) (book_size - used_size most_hours) ≡ true

module _ (s : List ℕ) where
  abbrev here : Book
  here = book_at most_hours s

  abbrev phase : ℕ
  phase = get_or s phase_offset 0

  present_rows : (counts_in s).operators ≤ most_operators → part_valid most_hours s present_offset ≡ true → here.part.rows ≡ rows_of s present_offset
  present_rows o t = ap (λ (p : Part). p.rows) (part_places most_hours s present_offset (counts_in s).operators o (few_rows most_hours s present_offset t))

  none_left : here.part.rows ≡ rows_of s present_offset
      → (eqb phase 1 || not (any_passes pending here.part.rows)) ≡ (eqb phase 1 || not (any_passes pending (rows_of s present_offset)))
  none_left e = ap (λ (r : List Row). eqb phase 1 || not (any_passes pending r)) e

  none_yet : (not (eqb phase 1) || eqb (length here.schedules) 0) ≡ (not (eqb phase 1) || eqb (number_at s schedule_count_offset 2) 0)
  none_yet = ap (λ (n : ℕ). not (eqb phase 1) || eqb n 0) (schedule_count_lem s)

  none_open : (eqb phase 1 || not (is_some here.saved)) ≡ (eqb phase 1 || eqb (get_or s flag_offset 0) 0)
  none_open = ap (λ (t : Bool). eqb phase 1 || t) (no_part (get_or s flag_offset 0) most_hours (counts_in s).operators (take (part_size most_hours) (drop (saved_offset most_hours) s)))

  valid_sections : length s ≡ book_size → Holds (book_tests here) → Holds (book_exact_tests most_hours book_size s) → Sections s
  unfolding setup_valid part_valid schedules_valid phase_valid
  valid_sections l (setup and phased and part and saved and count and schedules and ended and early and batch and asks and _)
      (behind-setup and bare and flagged and behind-schedules and exact and saved_exact_lem and asks_exact_lem and spare and _) =
      let f = setup_in_front s (sound_setup here.setup setup) in
      let a : setup_valid s ≡ true = holds_all (setup_valid_tests s) (setup and bare and behind-setup and no_more) in
      let k = setup_known s l a in
      let b : part_valid most_hours s present_offset ≡ true =
      (and_both (part_ok (setup_of s) here.part) (part_exact most_hours (counts_in s).operators s present_offset)).1 (ap (λ (u : Setup). part_ok u here.part) (sym f) ∙ part, exact) in
      let e = present_rows k.operators_high b in
      let few : number_at s schedule_count_offset 2 ≤ most_schedules = omega (arith, schedule_count_lem s, leb-true (length here.schedules) most_schedules count) in
      let each : every (schedule_ok (setup_of s)) (schedules_from s schedules_offset (number_at s schedule_count_offset 2)) ≡ true =
      ap (every (schedule_ok (setup_of s))) (sym (schedules_there s few)) ∙ ap (λ (u : Setup). every (schedule_ok u) here.schedules) (sym f) ∙ schedules in
      let together =
      (and_both (saved_part_valid most_hours s) (saved_followed most_hours s)).0
      (saved_whole most_hours s
      ∙ saved_there most_hours s k.operators_high (rows_of s present_offset) (get_or s flag_offset 0)
      (ap (λ (r : List Row). saved_ok (setup_of s) r here.saved) (sym e) ∙ ap (λ (u : Setup). saved_ok u here.part.rows here.saved) (sym f) ∙ saved)
      saved_exact_lem) in
      record {
        setup_valid = a;
        part_valid = b;
        saved_valid = together.0;
        followed = together.1;
        schedules_valid = holds_all (schedules_valid_tests s) (le-leb _ _ few and each and behind-schedules and no_more);
        phase_valid = holds_all (phase_valid_tests s) (phased and flagged and (sym (none_left e) ∙ ended) and (sym none_yet ∙ early) and (sym none_open ∙ batch) and no_more);
        asks_valid_lem = asks_valid_lem most_hours s (ap (λ (u : Setup). asks_ok u here.asks) (sym f) ∙ asks) asks_exact_lem;
        spare_zero = spare;
      }

  sections_valid : length s ≡ book_size → Sections s → Holds (setup_valid_tests s) → Holds (schedules_valid_tests s) → Holds (phase_valid_tests s)
      → (book_ok here ≡ true) × (book_exact most_hours book_size s ≡ true)
  unfolding book_ok book_exact part_valid
  sections_valid l d (setup and bare and behind-setup and _) (count and each and behind-schedules and _) (phased and flagged and ended and early and batch and _) =
      let f = setup_in_front s (sound_setup here.setup setup) in
      let k = setup_known s l d.setup_valid in
      let b = (and_both (part_ok (setup_of s) here.part) (part_exact most_hours (counts_in s).operators s present_offset)).0 d.part_valid in
      let e = present_rows k.operators_high d.part_valid in
      let c =
      saved_here most_hours s k.operators_high (rows_of s present_offset) (get_or s flag_offset 0)
      (sym (saved_whole most_hours s) ∙ (and_both (saved_part_valid most_hours s) (saved_followed most_hours s)).1 (d.saved_valid, d.followed)) in
      let few : number_at s schedule_count_offset 2 ≤ most_schedules = leb-true _ _ count in
      let o = valid_asks most_hours s d.asks_valid_lem in
      let part = ap (λ (u : Setup). part_ok u here.part) f ∙ b.0 in
      let saved =
      ap (λ (u : Setup). saved_ok u here.part.rows here.saved) f ∙ ap (λ (r : List Row). saved_ok (setup_of s) r here.saved) e ∙ c.0 in
      let counted = ap (λ (m : ℕ). leb m most_schedules) (schedule_count_lem s) ∙ count in
      let schedules = ap (λ (u : Setup). every (schedule_ok u) here.schedules) f ∙ ap (every (schedule_ok (setup_of s))) (schedules_there s few) ∙ each in (
        holds_all (book_tests here) (setup and phased and part and saved and counted and schedules and (none_left e ∙ ended) and (none_yet ∙ early) and (none_open ∙ batch) and (ap (λ (u : Setup). asks_ok u here.asks) f ∙ o.0) and no_more),
        holds_all (book_exact_tests most_hours book_size s) (behind-setup and bare and flagged and behind-schedules and b.1 and c.1 and o.1 and d.spare_zero and no_more),
      )

module _ (s : List ℕ) (b : Bytes s) where
  tests : is_sound s ≡ (eqb (length s) book_size && book_ok (decode most_hours book_size s) && book_exact most_hours book_size s)
  tests = is_sound_local most_hours book_size s b (omega arith)

  pub sound_valid : is_sound s ≡ true → Sections s
  unfolding book_ok book_exact
  sound_valid t =
      let w = (and_both (eqb (length s) book_size && book_ok (decode most_hours book_size s)) (book_exact most_hours book_size s)).0 (sym tests ∙ t) in
      let v = (and_both (eqb (length s) book_size) (book_ok (decode most_hours book_size s))).0 w.0 in
      valid_sections s (length_sound most_hours book_size s t)
      (all_holds (book_tests (book_at most_hours s)) (ap book_ok (sym (decode_places most_hours book_size s)) ∙ v.1))
      (all_holds (book_exact_tests most_hours book_size s) w.1)

  pub sections_sound : length s ≡ book_size → Sections s → is_sound s ≡ true
  unfolding setup_valid schedules_valid phase_valid
  sections_sound l d =
      let w = sections_valid s l d (all_holds (setup_valid_tests s) d.setup_valid) (all_holds (schedules_valid_tests s) d.schedules_valid) (all_holds (phase_valid_tests s) d.phase_valid) in
      tests ∙ rw (eq-eqb (length s) book_size l, ap book_ok (decode_places most_hours book_size s) ∙ w.0, w.1)

  -- bytes of another length are not those of a sound book
  pub not_sized : (length s ≡ book_size → ⊥) → false ≡ is_sound s
  not_sized n = sym (tests ∙ rw (ne_eqb (length s) book_size n))

  -- nor are bytes of which a section does not stand
  pub one_falls : {t : Bool} → (Sections s → t ≡ true) → t ≡ false → false ≡ is_sound s
  one_falls f e = sym (fails_with (is_sound s) (λ h. f (sound_valid h)) e)

  -- where the set-up and the parts stand, the rest decides
  pub rest_decides : {schedules phase asks spare : Bool} → length s ≡ book_size → setup_valid s ≡ true → saved_part_valid most_hours s ≡ true → part_valid most_hours s present_offset ≡ true → saved_followed most_hours s ≡ true
      → schedules ≡ schedules_valid s → phase ≡ phase_valid s → asks ≡ asks_valid most_hours s → spare ≡ zeros_from s (used_size most_hours) (book_size - used_size most_hours)
      → (((schedules && phase) && asks) && spare) ≡ is_sound s
  rest_decides {schedules} {phase} {asks} {spare} l a v p w e f k z =
      test_same _ _ (λ t. sections_sound l (by_rest (chain_holds schedules (phase ∷ asks ∷ spare ∷ []) t))) (λ t.
      let d = sound_valid t in
      holds_chain ((e ∙ d.schedules_valid) and (f ∙ d.phase_valid) and (k ∙ d.asks_valid_lem) and (z ∙ d.spare_zero) and no_more))
    where
      by_rest : Holds (schedules ∷ phase ∷ asks ∷ spare ∷ []) → Sections s
      by_rest (schedules-hold and phase-holds and asks-hold and spare-holds and _) = record {
        setup_valid = a;
        part_valid = p;
        saved_valid = v;
        followed = w;
        schedules_valid = sym e ∙ schedules-hold;
        phase_valid = sym f ∙ phase-holds;
        asks_valid_lem = sym k ∙ asks-hold;
        spare_zero = sym z ∙ spare-holds;
      }
