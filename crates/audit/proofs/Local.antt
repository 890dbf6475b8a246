-- Bytes are those of a sound book by tests that each look at one place: for bytes that say a sound book, each section is that of its image
-- exactly where its tests hold. No image is built.
use Prim.Native.Nat.{ℕ, zero, suc, ◌-◌, ◌*◌, ◌≤◌, ◌<◌}
use mathlib.Core.Path.{◌≡◌, refl, sym, ap, ◌∙◌}
use mathlib.Core.Logic.{◌↔◌}
use mathlib.Core.List.{List, [], ◌∷◌}
use mathlib.Core.Bool.{true, ◌&&◌}
use native.Mathlib.Omega.{arith}
use lib.ListN.{length, get_or, take, drop, length-map, length-drop}
use lib.Seq.{length-take-le}
use lib.Dec.{eqb, leb}
use borrow.Author.Tests.{eqb-true, eq-eqb, leb-true}
use Rattle.wire.specs.Numbers.{number, number_at, le, Bytes}
use Rattle.wire.specs.Regions.{zeros_from}
use Rattle.wire.specs.Parts.{zeros, flat, cut, start_of, chunks}
use Rattle.wire.proofs.NumberLaws.{bytes_at, number-le, number_at_one, le_number_wide, bytes_take, bytes_drop}
use Rattle.wire.proofs.ZeroLaws.{zeros_read, zeros_tested}
use Rattle.wire.proofs.PartLaws.{cut-flat, flat-cut, cut_at, rest_zeros_read, rest_zeros_tested}
use Rattle.wire.proofs.SlotLaws.{length-chunks, slots_again}
use Rattle.rules.specs.declared.Row.{Row}
use Rattle.rules.specs.Limits.{most_operators, most_schedules}
use Rattle.rules.specs.Books.{Setup}
use Rattle.rules.specs.Opening.{counts_in}
use Rattle.rules.proofs.Basics.Tests.{test_same, and_both, Holds, ◌and◌, no_more, all_holds, holds_all}
use Rattle.image.specs.Layout.{setup_room, schedule_width, part_size, asks_size, used_size, book_widths, phase_offset, flag_offset, schedule_count_offset, schedules_offset, present_offset, saved_offset, asks_offset, setup_section, phase_section, flag_section, schedule_count_section, schedules_section, present_section, saved_section, asks_section, spare_section}
use Rattle.image.specs.Image.{schedule_bytes, part_bytes, flag, saved_bytes, sections_with, sections, image, schedule_in, part_in, saved_in, decode}
use Rattle.image.specs.Valid.{book_ok, is_sound_of}
use Rattle.image.proofs.Sound.SoundBooks.{SoundBook, SavedSound, sound}
use Rattle.image.proofs.Writing.Sizes.{fits, length-schedule, wide_book}
use Rattle.image.proofs.Round.{schedule_again, same_refl, sound_is_image, length_sound}
use Rattle.image.proofs.Reading.Places.{book_at, counts_at, decode_places}
use Rattle.audit.specs.Exact.{part_exact, saved_exact, book_exact_tests, book_exact}
use Rattle.audit.proofs.SetupTests.{setup_exact, exact_setup}
use Rattle.audit.proofs.PartTests.{slots_zero, part_exact_lem, exact_part}
use Rattle.audit.proofs.AskTests.{asks_exact_lem, exact_asks}

-- ---- the flag

flag_exact : (n top ops : ℕ) (y : List ℕ) → n < 256 → (le 1 (flag (saved_in n top ops y)) ≡ le 1 n) ↔ (leb n 1 ≡ true)
unfolding saved_in
flag_exact zero top ops y h = ((λ e. refl), (λ t. refl))
flag_exact (suc zero) top ops y h = ((λ e. refl), (λ t. refl))
flag_exact (suc (suc n)) top ops y h = (
  (λ (e : le 1 1 ≡ le 1 (suc (suc n))). absurd (omega (arith, sym (number-le 1 1 (omega arith)) ∙ ap number e ∙ number-le 1 (suc (suc n)) h))),
  (λ (t : leb (suc (suc n)) 1 ≡ true). absurd (omega (arith, leb-true (suc (suc n)) 1 t))),
)

-- ---- the saved part

module _ (top ops : ℕ) (s : List ℕ) (b : Bytes s) (l : used_size top ≤ length s) (o : ops ≤ most_operators) (u : Setup) (rows : List Row) where
  abbrev kept : List ℕ
  kept = take (part_size top) (drop (saved_offset top) s)

  saved_exact_lem : (n : ℕ) → SavedSound u rows (saved_in n top ops kept) → (saved_bytes top (saved_in n top ops kept) ≡ kept) ↔ (saved_exact n top ops s ≡ true)
  unfolding saved_in saved_bytes saved_exact
  saved_exact_lem zero k = (
    (λ (e : zeros (part_size top) ≡ kept). zeros_tested (part_size top) s (saved_offset top) (omega arith) (sym e)),
    (λ (t : zeros_from s (saved_offset top) (part_size top) ≡ true). sym (zeros_read (part_size top) s (saved_offset top) (omega arith) t)),
  )
  saved_exact_lem (suc n) k = (
    (λ (e : part_bytes top (part_in top ops kept) ≡ kept). part_exact_lem top ops s (saved_offset top) b (omega arith) o k.0.rows_high e),
    (λ (t : part_exact top ops s (saved_offset top) ≡ true). exact_part top ops s (saved_offset top) b (omega arith) o k.0.rows_high t),
  )

-- ---- a book

-- sections that are equal one by one: `first beside second beside no_others`
infixr 5 ◌beside◌
data Alike : List (List ℕ) → List (List ℕ) → Type 0 where
  no_others : Alike [] []
  ◌beside◌ : {x y : List ℕ} {xs ys : List (List ℕ)} → x ≡ y → Alike xs ys → Alike (x ∷ xs) (y ∷ ys)

alike-flat : {xs ys : List (List ℕ)} → Alike xs ys → flat xs ≡ flat ys
unfolding flat
alike-flat no_others = refl
alike-flat (e beside rest) = rw (e, alike-flat rest)

module _ (top size : ℕ) (s : List ℕ) (b : Bytes s) (l : length s ≡ size) (g : used_size top ≤ size) (v : book_ok (book_at top s) ≡ true) where
  abbrev ws : List ℕ
  ws = book_widths top size

  known : SoundBook (book_at top s)
  known = sound (book_at top s) v

  few : (counts_in s).operators ≤ most_operators
  few = omega (arith, counts_at s, known.setup_sound.operators_high)

  schedules_few : number_at s schedule_count_offset 2 ≤ most_schedules
  schedules_few =
      let room : List ℕ = take (schedule_width * most_schedules) (drop schedules_offset s) in
      omega (arith, known.schedules_high, length-map (chunks schedule_width (number_at s schedule_count_offset 2) room) schedule_in, length-chunks schedule_width (number_at s schedule_count_offset 2) room)

  byte_at : (i : ℕ) → i < length s → take 1 (drop i s) ≡ le 1 (get_or s i 0)
  unfolding number_at
  byte_at i h =
      let e = le_number_wide (bytes_take 1 (bytes_drop i b)) 1 (length-take-le 1 (drop i s) (omega (arith, length-drop i s))) in
      sym e ∙ ap (le 1) (number_at_one s i)

  saved_place : start_of ws saved_section ≡ saved_offset top
  saved_place = omega arith

  asks_place : start_of ws asks_section ≡ asks_offset top
  asks_place = omega arith

  spare_place : start_of ws spare_section ≡ used_size top
  spare_place = omega arith

  abbrev schedule_count : ℕ
  schedule_count = number_at s schedule_count_offset 2

  saved_test : (saved_bytes top (book_at top s).saved ≡ take (part_size top) (drop (saved_offset top) s)) ↔ (saved_exact (get_or s flag_offset 0) top (counts_in s).operators s ≡ true)
  saved_test =
      saved_exact_lem top (counts_in s).operators s b (omega arith) few (book_at top s).setup (book_at top s).part.rows (get_or s flag_offset 0) known.saved_sound

  flag_test : (le 1 (flag (book_at top s).saved) ≡ le 1 (get_or s flag_offset 0)) ↔ (leb (get_or s flag_offset 0) 1 ≡ true)
  flag_test = flag_exact (get_or s flag_offset 0) top (counts_in s).operators (take (part_size top) (drop (saved_offset top) s)) (bytes_at b flag_offset)

  schedule_count_lem : le 2 (length (book_at top s).schedules) ≡ take 2 (drop schedule_count_offset s)
  unfolding number_at
  schedule_count_lem =
      let room : List ℕ = take (schedule_width * most_schedules) (drop schedules_offset s) in
      ap (le 2) (length-map (chunks schedule_width schedule_count room) schedule_in ∙ length-chunks schedule_width schedule_count room)
      ∙ le_number_wide (bytes_take 2 (bytes_drop schedule_count_offset b)) 2 (length-take-le 2 (drop schedule_count_offset s) (omega (arith, length-drop schedule_count_offset s)))

  in_places : flat (take setup_room s ∷ take 1 (drop phase_offset s) ∷ take 1 (drop flag_offset s) ∷ take 2 (drop schedule_count_offset s)
      ∷ take (schedule_width * most_schedules) (drop schedules_offset s) ∷ take (part_size top) (drop present_offset s)
      ∷ take (part_size top) (drop (saved_offset top) s) ∷ take asks_size (drop (asks_offset top) s) ∷ take (size - used_size top) (drop (used_size top) s) ∷ []) ≡ s
  unfolding cut
  in_places =
      alike-flat (sym (cut_at ws s setup_section) beside sym (cut_at ws s phase_section) beside sym (cut_at ws s flag_section) beside sym (cut_at ws s schedule_count_section)
      beside sym (cut_at ws s schedules_section) beside sym (cut_at ws s present_section) beside sym (cut_at ws s saved_section ∙ rw saved_place) beside sym (cut_at ws s asks_section ∙ rw asks_place)
      beside sym (cut_at ws s spare_section ∙ rw spare_place) beside no_others)
      ∙ flat-cut ws s (l ∙ omega arith)

  book_exact_lem : image top size (book_at top s) ≡ s → book_exact top size s ≡ true
  unfolding book_exact image sections sections_with
  book_exact_lem e =
      let few_schedules = schedules_few in
      let sec : sections top size (book_at top s) ≡ cut ws s =
      sym (cut-flat ws (sections top size (book_at top s)) (wide_book top size (book_at top s) (fits (book_at top s) known))) ∙ ap (cut ws) e in
      let at : (k : ℕ) → get_or (sections top size (book_at top s)) k [] ≡ take (get_or ws k 0) (drop (start_of ws k) s) =
      λ k. ap (λ (y : List (List ℕ)). get_or y k []) sec ∙ cut_at ws s k in
      let t0 = setup_exact s b (omega arith) known.setup_sound (at setup_section) in
      let t2 = flag_test.0 (at flag_section ∙ byte_at flag_offset (omega arith)) in
      let z4 = slots_zero schedule_width most_schedules schedule_bytes length-schedule schedule_in schedule_count (take (schedule_width * most_schedules) (drop schedules_offset s)) (at schedules_section) in
      let t4 = rest_zeros_tested ws s schedules_section (schedule_width * schedule_count) (omega arith) (omega arith) (ap (drop (schedule_width * schedule_count)) (cut_at ws s schedules_section) ∙ z4) in
      let t5 = part_exact_lem top (counts_in s).operators s present_offset b (omega arith) few known.part_sound.rows_high (at present_section) in
      let t6 = saved_test.0 (at saved_section ∙ rw saved_place) in
      let t7 = asks_exact_lem top s (omega arith) (at asks_section ∙ rw asks_place) in
      let t8 = zeros_tested (size - used_size top) s (used_size top) (omega arith) (sym (at spare_section ∙ rw spare_place)) in
      holds_all (book_exact_tests top size s) (t0.0 and t0.1 and t2 and t4 and t5 and t6 and t7 and t8 and no_more)

  exact_book : Holds (book_exact_tests top size s) → image top size (book_at top s) ≡ s
  unfolding image sections sections_with
  exact_book (behind and lodged and flagged and schedules and part and saved and asks and spare and _) =
      let few_schedules = schedules_few in
      let room : List ℕ = take (schedule_width * most_schedules) (drop schedules_offset s) in
      let a0 = exact_setup s b (omega arith) known.setup_sound behind lodged in
      let a1 = sym (byte_at phase_offset (omega arith)) in
      let a2 = flag_test.1 flagged ∙ sym (byte_at flag_offset (omega arith)) in
      let a3 = schedule_count_lem in
      let z4 = rest_zeros_read ws s schedules_section (schedule_width * schedule_count) (omega arith) (omega arith) schedules in
      let a4 = slots_again schedule_width schedule_bytes schedule_in schedule_again most_schedules schedule_count (bytes_take (schedule_width * most_schedules) (bytes_drop schedules_offset b))
      (length-take-le (schedule_width * most_schedules) (drop schedules_offset s) (omega (arith, length-drop schedules_offset s))) few_schedules (sym (ap (drop (schedule_width * schedule_count)) (cut_at ws s schedules_section)) ∙ z4) in
      let a5 = exact_part top (counts_in s).operators s present_offset b (omega arith) few known.part_sound.rows_high part in
      let a6 = saved_test.1 saved in
      let a7 = exact_asks top s (omega arith) b asks in
      let a8 = sym (zeros_read (size - used_size top) s (used_size top) (omega arith) spare) in
      alike-flat (a0 beside a1 beside a2 beside a3 beside a4 beside a5 beside a6 beside a7 beside a8 beside no_others) ∙ in_places

-- bytes are those of a sound book where they have its size, say a sound book, and pass the tests of their places
pub is_sound_local : (top size : ℕ) (s : List ℕ) → Bytes s → used_size top ≤ size
    → is_sound_of top size s ≡ (eqb (length s) size && book_ok (decode top size s) && book_exact top size s)
unfolding is_sound_of book_exact
is_sound_local top size s b g =
    test_same _ _ (λ (t : is_sound_of top size s ≡ true).
    let i = sound_is_image top size s t in
    let l = length_sound top size s t in
    let e = decode_places top size s in
    let p = book_exact_lem top size s b l g (ap book_ok (sym e) ∙ i.1) (ap (image top size) (sym e) ∙ sym i.0) in
    rw (eq-eqb _ _ l, i.1, p)) (λ t.
    let h = (and_both (eqb (length s) size && book_ok (decode top size s)) (book_exact top size s)).0 t in
    let k = (and_both (eqb (length s) size) (book_ok (decode top size s))).0 h.0 in
    let e = decode_places top size s in
    let p = exact_book top size s b (eqb-true _ _ k.0) g (ap book_ok (sym e) ∙ k.1) (all_holds (book_exact_tests top size s) h.1) in
    rw (k.0, k.1, ap (image top size) e ∙ p, same_refl s))
