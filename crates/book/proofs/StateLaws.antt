-- What the bytes of a book hold at each place: they are the image of that book, so that what the image has there is read.
use Rattle.std.specs.Prelude.{Option, None, Some}
use Prim.Native.Nat.{ℕ, zero, suc, ◌+◌, ◌-◌, ◌≤◌, ◌<◌}
use mathlib.Core.Path.{◌≡◌, refl, sym, ap, ◌∙◌}
use mathlib.Core.List.{List, [], ◌∷◌}
use mathlib.Core.Bool.{true}
use native.Mathlib.Omega.{arith}
use lib.ListN.{length, get_or, take, drop}
use lib.Dec.{eqb}
use Rattle.wire.specs.Numbers.{number_at}
use Rattle.wire.specs.Parts.{start_of}
use Rattle.rules.specs.declared.Row.{Row}
use Rattle.rules.specs.Basics.{is_some}
use Rattle.rules.specs.Limits.{most_hours, most_rows, most_schedules, book_size}
use Rattle.rules.specs.Books.{Part, Book, no_row}
use Rattle.rules.specs.Calls.{restored}
use Rattle.rules.proofs.Basics.Searches.{some_of, each_at}
use Rattle.image.specs.Layout.{row_widths, row_width, phase_offset, flag_offset, schedule_count_offset, present_offset, saved_offset, row_count_offset, row_offset}
use Rattle.image.specs.Image.{row_values, row_bytes, row_in, flag}
use Rattle.image.specs.Valid.{book_ok, follows, is_sound, book_in, book_bytes}
use Rattle.image.proofs.Sound.SoundBooks.{SoundBook, sound}
use Rattle.image.proofs.Writing.Sizes.{Fits, fits, row_small}
use Rattle.image.proofs.Keeping.KeepsRows.{follows_cons}
use Rattle.image.proofs.Keeping.Keeps.{batch_follows}
use Rattle.image.proofs.Reading.ImageReads.{phase_read, flag_read, schedule_count_read, row_count_read, saved_row_count_read, row_read, row_value_read}
use Rattle.image.proofs.Round.{row_back, sound_is_image, length_sound}
use Rattle.book.specs.Members.{IsRow, numbered_row}

-- the flag says whether a batch is open
flag_open : (o : Option Part) → eqb (flag o) 1 ≡ is_some o
flag_open None = refl
flag_open (Some p) = refl

-- rows that follow others are no fewer
follows_longer : (xs ys : List Row) → follows xs ys ≡ true → length xs ≤ length ys
unfolding follows
follows_longer [] ys h = omega arith
follows_longer (x ∷ xs) [] h = let z : ◌≡◌ {A = ℕ} 0 1 = cc in absurd (omega arith)
follows_longer (x ∷ xs) (y ∷ ys) h = let ih = follows_longer xs ys ((follows_cons x y xs ys).0 h).1 in omega arith

module _ (s : List ℕ) (h : is_sound s ≡ true) where
  -- bytes of a sound book are the image of the book that they say
  pub book_image : s ≡ book_bytes (book_in s)
  book_image = (sound_is_image most_hours book_size s h).0

  pub book_ok_lem : book_ok (book_in s) ≡ true
  book_ok_lem = (sound_is_image most_hours book_size s h).1

  pub book_length : length s ≡ book_size
  book_length = length_sound most_hours book_size s h

  -- it is sound, and every value fits its place
  pub book_is_sound : SoundBook (book_in s)
  book_is_sound = sound (book_in s) book_ok_lem

  pub book_fits : Fits (book_in s)
  book_fits = fits (book_in s) book_is_sound

  -- a number of a book is that of its image
  pub number_in_book : (at width : ℕ) → number_at s at width ≡ number_at (book_bytes (book_in s)) at width
  number_in_book at width = ap (λ (t : List ℕ). number_at t at width) book_image

  pub phase_stands : number_at s phase_offset 1 ≡ (book_in s).phase
  phase_stands =
      let high = book_is_sound.phase_high in
      number_in_book phase_offset 1 ∙ phase_read most_hours book_size (book_in s) book_fits (omega arith)

  pub flag_stands : eqb (number_at s flag_offset 1) 1 ≡ is_some (book_in s).saved
  flag_stands =
      ap (λ (n : ℕ). eqb n 1) (number_in_book flag_offset 1 ∙ flag_read most_hours book_size (book_in s) book_fits) ∙ flag_open (book_in s).saved

  pub row_count_stands : number_at s (present_offset + row_count_offset) 2 ≡ length (book_in s).part.rows
  row_count_stands = number_in_book (present_offset + row_count_offset) 2 ∙ row_count_read most_hours book_size (book_in s) book_fits

  pub row_count_high : length (book_in s).part.rows ≤ most_rows
  row_count_high = book_is_sound.part_sound.rows_high

  pub schedule_count_stands : number_at s schedule_count_offset 2 ≡ length (book_in s).schedules
  schedule_count_stands = number_in_book schedule_count_offset 2 ∙ schedule_count_read most_hours book_size (book_in s) book_fits

  pub schedule_count_high : length (book_in s).schedules ≤ most_schedules
  schedule_count_high = book_is_sound.schedules_high

  -- while a batch is open: how many rows undo restores, which are no more than there are
  pub saved_row_count_stands : is_some (book_in s).saved ≡ true
      → number_at s (saved_offset most_hours + row_count_offset) 2 ≡ length (restored (book_in s).saved (book_in s).part).rows
  saved_row_count_stands batch =
      let (p, e) = some_of (book_in s).saved batch in
      number_in_book (saved_offset most_hours + row_count_offset) 2
      ∙ saved_row_count_read most_hours book_size (book_in s) book_fits p e
      ∙ ap (λ (o : Option Part). length (restored o (book_in s).part).rows) (sym e)

  pub saved_rows_fewer : is_some (book_in s).saved ≡ true
      → length (restored (book_in s).saved (book_in s).part).rows ≤ length (book_in s).part.rows
  saved_rows_fewer batch =
      let (p, e) = some_of (book_in s).saved batch in
      rw e (follows_longer p.rows (book_in s).part.rows (batch_follows (book_in s) p book_is_sound e))

  -- value k of the row that has i before it
  pub row_value_stands : (i k at : ℕ) → i < length (book_in s).part.rows → at ≡ present_offset + row_offset i + start_of row_widths k
      → number_at s at (get_or row_widths k 0) ≡ get_or (row_values (get_or (book_in s).part.rows i no_row)) k 0
  row_value_stands i k at l e =
      let b : Book = book_in s in
      let small = row_small b.setup _ book_is_sound.setup_sound (each_at no_row i book_is_sound.part_sound.rows_sound l) in
      number_in_book at (get_or row_widths k 0) ∙ row_value_read most_hours book_size b book_fits i k at l small e

  -- the same of the row of a number
  pub numbered_value_stands : (n k at : ℕ) → IsRow (book_in s) n → at ≡ present_offset + row_offset (n - 1) + start_of row_widths k
      → number_at s at (get_or row_widths k 0) ≡ get_or (row_values (numbered_row (book_in s) n)) k 0
  numbered_value_stands zero k at own e = absurd (omega arith)
  numbered_value_stands (suc i) k at own e = row_value_stands i k at (omega arith) (omega arith)

  -- the whole row of a number
  pub numbered_row_stands : (n at : ℕ) → IsRow (book_in s) n → at ≡ present_offset + row_offset (n - 1)
      → row_in (take row_width (drop at s)) ≡ numbered_row (book_in s) n
  numbered_row_stands zero at own e = absurd (omega arith)
  numbered_row_stands (suc i) at own e =
      let b : Book = book_in s in
      let r : Row = get_or b.part.rows i no_row in
      let here : take row_width (drop at s) ≡ row_bytes r =
      ap (λ (t : List ℕ). take row_width (drop at t)) book_image
      ∙ row_read most_hours book_size b book_fits i at (omega arith) (omega arith) in
      ap row_in here ∙ row_back b.setup book_is_sound.setup_sound r (each_at no_row i book_is_sound.part_sound.rows_sound (omega arith))
