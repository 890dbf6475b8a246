-- A sound book is read back from its image, as each value fits its bytes, and so bytes are a book exactly when they are the image of a
-- valid one.
use Rattle.std.specs.Prelude.{Option, None, Some}
use Prim.Native.Nat.{ℕ, suc, ◌≤◌}
use mathlib.Core.Path.{◌≡◌, refl, sym, ap, ◌∙◌}
use mathlib.Core.List.{List, [], ◌∷◌, map}
use mathlib.Core.Bool.{true, ◌&&◌}
use native.Mathlib.Omega.{arith}
use lib.ListN.{length}
use lib.Dec.{eqb}
use borrow.Author.Tests.{eqb-true, eq-eqb, ne_eqb}
use Rattle.wire.specs.Numbers.{number, number_at, le, Bytes}
use Rattle.wire.specs.Parts.{Small, zeros, chunks, slots}
use Rattle.wire.proofs.NumberLaws.{number-le, le_number_wide}
use Rattle.wire.proofs.PartLaws.{cut-flat}
use Rattle.wire.proofs.PackLaws.{number_in_pack, pack-numbers}
use Rattle.wire.proofs.SlotLaws.{unslots}
use Rattle.units.specs.declared.Cents.{Cents}
use Rattle.units.specs.Units.{cents}
use Rattle.rules.specs.declared.Row.{Row}
use Rattle.rules.specs.declared.Schedule.{Schedule}
use Rattle.rules.specs.Basics.{Each, nil, cons, entries}
use Rattle.rules.specs.Limits.{most_operators, most_accounts, most_rows, most_schedules, most_guarantee}
use Rattle.rules.specs.Books.{Setup, Part, Book, ask_at, operator_count}
use Rattle.rules.specs.Opening.{guarantee_width}
use Rattle.rules.specs.Asks.{asks_stand}
use Rattle.rules.proofs.Basics.Tests.{and_both}
use Rattle.rules.proofs.Basics.Searches.{each_map, at_each}
use Rattle.image.specs.Layout.{row_widths, row_width, schedule_widths, schedule_width, part_widths, used_size, book_widths}
use Rattle.image.specs.Image.{row_values, row_bytes, schedule_values, schedule_bytes, part_sections, part_bytes, ask_bytes, flag, saved_bytes, sections_with, sections, image, row_in, ask_in, schedule_in, part_of, part_in, saved_in, book_of, decode}
use Rattle.image.specs.Valid.{book_ok, valid, same, is_sound_of, is_book_of}
use Rattle.image.proofs.Sound.Soundness.{SoundSetup, SoundRow, SoundSchedule}
use Rattle.image.proofs.Sound.SoundBooks.{SoundPart, SavedSound, SoundAsk, sound, book_sound, valid_sound, valid_stands, stands_valid}
use Rattle.image.proofs.Writing.Sizes.{row_small, schedule_small, part_fits_of, fits, length_row, length_ask, length-schedule, length_guarantee, wide_part, wide_book, length-image}
use Rattle.image.proofs.Setups.StoredSetup.{setup_back}

-- ---- rows and schedules

module _ (u : Setup) (s : SoundSetup u) where
  pub row_back : (r : Row) → SoundRow u r → row_in (row_bytes r) ≡ r
  unfolding row_in row_bytes
  row_back r k =
      let ws : List ℕ = row_widths in
      let vs : List ℕ = row_values r in
      let fit : Small row_widths vs = row_small u r s k in
      rw (number_in_pack ws vs 0 fit, number_in_pack ws vs 1 fit, number_in_pack ws vs 2 fit, number_in_pack ws vs 3 fit, number_in_pack ws vs 4 fit, number_in_pack ws vs 5 fit, number_in_pack ws vs 6 fit, number_in_pack ws vs 7 fit)

  pub schedule_back : (x : Schedule) → SoundSchedule u x → schedule_in (schedule_bytes x) ≡ x
  unfolding schedule_in schedule_bytes
  schedule_back x k =
      let ws : List ℕ = schedule_widths in
      let vs : List ℕ = schedule_values x in
      let fit : Small schedule_widths vs = schedule_small u x s k in
      rw (number_in_pack ws vs 0 fit, number_in_pack ws vs 1 fit, number_in_pack ws vs 2 fit, number_in_pack ws vs 3 fit, number_in_pack ws vs 4 fit)

pub row_again : (c : List ℕ) → Bytes c → length c ≡ row_width → row_bytes (row_in c) ≡ c
unfolding row_bytes row_in
row_again c b l = pack-numbers row_widths b l

pub schedule_again : (c : List ℕ) → Bytes c → length c ≡ schedule_width → schedule_bytes (schedule_in c) ≡ c
unfolding schedule_bytes schedule_in
schedule_again c b l = pack-numbers schedule_widths b l

pub guarantee_back : (g : Cents) → g.0 ≤ most_guarantee → cents (number (le guarantee_width g.0)) ≡ g
guarantee_back g h = rw (number-le guarantee_width g.0 (omega arith))

pub guarantee_again : (c : List ℕ) → Bytes c → length c ≡ guarantee_width → le guarantee_width (cents (number c)).0 ≡ c
guarantee_again c b l = le_number_wide b guarantee_width l

-- ---- a part

map_same : {A : Type 0} {f : A → A} {xs : List A} → Each (λ x. f x ≡ x) xs → map f xs ≡ xs
map_same nil = refl
map_same (cons e es) = rw (e, map_same es)

module _ (top : ℕ) (u : Setup) (s : SoundSetup u) where
  pub part_back : (p : Part) → SoundPart u p → part_in top (operator_count u) (part_bytes top p) ≡ p
  unfolding part_in part_of entries part_bytes part_sections
  part_back p k =
      let f = part_fits_of u p s.operators_high k in
      let c = cut-flat (part_widths top) (part_sections top p) (wide_part top p f) in
      let n : operator_count u ≡ length p.guarantees = sym k.guarantees_all in
      let g = unslots guarantee_width most_operators (λ (x : Cents). le guarantee_width x.0) length_guarantee (λ x. cents (number x)) p.guarantees (map_same (each_map guarantee_back k.guarantees_high)) in
      let m : number (le 2 (length p.rows)) ≡ length p.rows = number-le 2 _ (omega (arith, k.rows_high)) in
      let r = unslots row_width most_rows row_bytes length_row row_in p.rows (map_same (each_map (row_back u s) k.rows_sound)) in
      rw (c, n, m, g, r)

  saved_back : (rows : List Row) (o : Option Part) → SavedSound u rows o → saved_in (number (le 1 (flag o))) top (operator_count u) (saved_bytes top o) ≡ o
  unfolding saved_in saved_bytes le number
  saved_back rows None k = refl
  saved_back rows (Some p) k = ap (λ (x : Part). Some x) (part_back p k.0)

-- ---- asks

-- zeros say no ask
pub ask_none : ask_in (zeros row_width) ≡ None
unfolding ask_in row_in zeros number number_at
ask_none = refl

pub ask_back : (u : Setup) → SoundSetup u → (a : ℕ) (o : Option Row) → SoundAsk u a o → ask_in (ask_bytes o) ≡ o
unfolding ask_in
ask_back u s a None k = ask_none
ask_back u s a (Some r) k = rw (row_back u s r k.row_sound, ne_eqb r.status 0 (λ e. omega (arith, k.row_sound.status_low)))

-- ---- a book

pub decode-image : (top size : ℕ) (b : Book) → book_ok b ≡ true → decode top size (image top size b) ≡ b
unfolding decode book_of entries image sections sections_with
decode-image top size b v =
    let s = sound b v in
    let n = s.asks_all in
    let own : Each (λ o. ask_in (ask_bytes o) ≡ o) b.asks =
    at_each None b.asks (λ i h. ask_back b.setup s.setup_sound (suc i) (ask_at b (suc i)) (s.asks_sound (suc i) (omega arith) (omega arith))) in
    let asks-again : map ask_in (chunks row_width most_accounts (slots row_width most_accounts ask_bytes b.asks)) ≡ b.asks =
    ap (λ (k : ℕ). map ask_in (chunks row_width k (slots row_width most_accounts ask_bytes b.asks))) (sym n)
    ∙ unslots row_width most_accounts ask_bytes length_ask ask_in b.asks (map_same own) in
    let u = s.setup_sound in
    let f = fits b s in
    let c = cut-flat (book_widths top size) (sections top size b) (wide_book top size b f) in
    let so = setup_back b.setup u in
    let ph : number (le 1 b.phase) ≡ b.phase = number-le 1 _ (omega (arith, s.phase_high)) in
    let pt = part_back top b.setup u b.part s.part_sound in
    let sv = saved_back top b.setup u b.part.rows b.saved s.saved_sound in
    let m : number (le 2 (length b.schedules)) ≡ length b.schedules = number-le 2 _ (omega (arith, s.schedules_high)) in
    let sc = unslots schedule_width most_schedules schedule_bytes length-schedule schedule_in b.schedules (map_same (each_map (schedule_back b.setup u) s.schedules_sound)) in
    rw (c, so, ph, pt, m, sc, sv, asks-again)

-- ---- bytes that are a book

pub same_refl : (s : List ℕ) → same s s ≡ true
unfolding same
same_refl [] = refl
same_refl (x ∷ xs) = rw (eq-eqb x x refl, same_refl xs)

pub same_true : (s t : List ℕ) → same s t ≡ true → s ≡ t
unfolding same
same_true [] [] h = refl
same_true [] (y ∷ ys) h = cc
same_true (x ∷ xs) [] h = cc
same_true (x ∷ xs) (y ∷ ys) h =
    let w = (and_both (eqb x y) (same xs ys)).0 h in
    rw (eqb-true x y w.0, same_true xs ys w.1)

-- ---- what is sound

-- the image of a sound book is one
pub image-is_sound : (top size : ℕ) (b : Book) → used_size top ≤ size → book_ok b ≡ true → is_sound_of top size (image top size b) ≡ true
unfolding is_sound_of
image-is_sound top size b h v =
    rw (decode-image top size b v, v, same_refl (image top size b), eq-eqb _ _ (length-image top size b (fits b (sound b v)) h))

-- and bytes of a sound book are the image of the one that they say
pub sound_is_image : (top size : ℕ) (s : List ℕ) → is_sound_of top size s ≡ true
    → (s ≡ image top size (decode top size s)) × (book_ok (decode top size s) ≡ true)
unfolding is_sound_of
sound_is_image top size s h =
    let b : Book = decode top size s in
    let w = (and_both (eqb (length s) size && book_ok b) (same (image top size b) s)).0 h in
    (sym (same_true _ _ w.1), ((and_both (eqb (length s) size) (book_ok b)).0 w.0).1)

-- they have its size
pub length_sound : (top size : ℕ) (s : List ℕ) → is_sound_of top size s ≡ true → length s ≡ size
unfolding is_sound_of
length_sound top size s h =
    let b : Book = decode top size s in
    let w = (and_both (eqb (length s) size && book_ok b) (same (image top size b) s)).0 h in
    eqb-true _ _ ((and_both (eqb (length s) size) (book_ok b)).0 w.0).0

-- so a sound book has one image, and an image says one sound book
pub one_book : (top size : ℕ) (b c : Book) → book_ok b ≡ true → book_ok c ≡ true → image top size b ≡ image top size c → b ≡ c
one_book top size b c v w e = sym (decode-image top size b v) ∙ ap (decode top size) e ∙ decode-image top size c w

-- ---- what is a book

-- bytes are a book where they are sound and register would accept each ask
pub book_by_asks : (top size : ℕ) (s : List ℕ) → is_book_of top size s ≡ (is_sound_of top size s && asks_stand (decode top size s))
unfolding is_book_of
book_by_asks top size s = refl

pub book_is_sound : (top size : ℕ) (s : List ℕ) → is_book_of top size s ≡ true → is_sound_of top size s ≡ true
book_is_sound top size s h = ((and_both (is_sound_of top size s) (asks_stand (decode top size s))).0 (sym (book_by_asks top size s) ∙ h)).0

-- the image of a valid book is a book
pub image-is_book : (top size : ℕ) (b : Book) → used_size top ≤ size → valid b ≡ true → is_book_of top size (image top size b) ≡ true
image-is_book top size b h v =
    let ok = book_sound b (valid_sound b v) in
    book_by_asks top size (image top size b) ∙ rw (image-is_sound top size b h ok, decode-image top size b ok, valid_stands b v)

-- and bytes that are a book are the image of the valid book that they say
pub book_is_image : (top size : ℕ) (s : List ℕ) → is_book_of top size s ≡ true
    → (s ≡ image top size (decode top size s)) × (valid (decode top size s) ≡ true)
book_is_image top size s h =
    let w = (and_both (is_sound_of top size s) (asks_stand (decode top size s))).0 (sym (book_by_asks top size s) ∙ h) in
    let i = sound_is_image top size s w.0 in
    (i.0, stands_valid (decode top size s) (sound (decode top size s) i.1) w.1)
