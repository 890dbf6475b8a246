-- What the place of an account holds, an ask put there, and all places cleared: each is a piece of the image.
use Rattle.std.specs.Prelude.{Some}
use Prim.Native.Nat.{ℕ, ◌-◌, ◌≤◌}
use mathlib.Core.Path.{◌≡◌, ap, ◌∙◌}
use mathlib.Core.List.{List}
use mathlib.Core.Bool.{true}
use native.Mathlib.Omega.{arith}
use lib.ListN.{take, drop}
use Rattle.wire.specs.Regions.{splice}
use Rattle.wire.specs.Parts.{zeros}
use Rattle.rules.specs.declared.Row.{Row}
use Rattle.rules.specs.Limits.{most_accounts, most_hours, book_size}
use Rattle.rules.specs.Books.{Book, with_asks, ask_at, no_asks}
use Rattle.rules.specs.Calls.{apply, stand_ask}
use Rattle.image.specs.Layout.{row_width, asks_offset, asks_size, ask_offset}
use Rattle.image.specs.Image.{row_bytes, ask_bytes, row_in, ask_in}
use Rattle.image.specs.Valid.{row_ok, is_sound, is_book, book_in, book_bytes}
use Rattle.image.proofs.Sound.Soundness.{sound_row}
use Rattle.image.proofs.Sound.SoundBooks.{AskRow, stands_valid}
use Rattle.image.proofs.Reading.ImageReads.{ask_read}
use Rattle.image.proofs.Writing.BookWrites.{write_ask, write_cleared}
use Rattle.image.proofs.Round.{ask_back, image-is_book}
use Rattle.image.proofs.Keeping.KeepsChanges.{cleared_sound}
use Rattle.image.proofs.Keeping.Keeps.{cleared_stands}
use Rattle.book.proofs.StateLaws.{book_image, book_fits, book_is_sound}
use Rattle.image.specs.Image.{asked_for}

module _ (s : List ℕ) (h : is_sound s ≡ true) where
  abbrev here : Book
  here = book_in s

  -- the ask of an account is what the row in its place says
  pub ask_in_place : (a at : ℕ) (r : Row) → 1 ≤ a → a ≤ most_accounts → at ≡ ask_offset most_hours a → r ≡ row_in (take row_width (drop at s))
      → asked_for r ≡ ask_at here a
  unfolding ask_in
  ask_in_place a at r low high e w =
      let k = book_is_sound s h in
      let held : take row_width (drop at s) ≡ ask_bytes (ask_at here a) =
      ap (λ (t : List ℕ). take row_width (drop at t)) (book_image s h)
      ∙ ask_read most_hours book_size here (book_fits s h) a at low (omega (arith, k.asks_all)) e in
      ap asked_for w ∙ ap ask_in held ∙ ask_back here.setup k.setup_sound a (ask_at here a) (k.asks_sound a low high)

  -- an ask that stands is pending
  pub asked_pending : (a : ℕ) (r : Row) → 1 ≤ a → a ≤ most_accounts → ask_at here a ≡ Some r → AskRow here.setup a r
  asked_pending a r low high e = rw e at ((book_is_sound s h).asks_sound a low high)

  -- the proposer of a row in range has a place
  pub proposer_placed : (row : Row) → row_ok here.setup row ≡ true → (1 ≤ row.proposer) × (row.proposer ≤ most_accounts)
  proposer_placed row ok =
      let k = sound_row here.setup row ok in
      (k.proposer_low, omega (arith, k.proposer_high, (book_is_sound s h).setup_sound.accounts_high))

  -- a row put into the place of its proposer
  pub ask_written : (row : Row) (at : ℕ) → row_ok here.setup row ≡ true → at ≡ ask_offset most_hours row.proposer
      → splice s at (row_bytes row) ≡ book_bytes (apply (stand_ask row) here)
  ask_written row at ok e =
      let k = sound_row here.setup row ok in
      let all = book_is_sound s h in
      ap (λ (t : List ℕ). splice t at (row_bytes row)) (book_image s h)
      ∙ write_ask most_hours book_size here (book_fits s h) row (row.proposer - 1) at (omega (arith, k.proposer_low))
      (omega (arith, k.proposer_low, k.proposer_high, all.setup_sound.accounts_high, all.asks_all)) (omega arith)

  -- all places cleared: what is left is a book
  pub cleared_written : {t : List ℕ} → t ≡ splice s (asks_offset most_hours) (zeros asks_size)
      → (t ≡ book_bytes (with_asks here no_asks)) × (is_book t ≡ true)
  cleared_written e =
      let w =
      e ∙ ap (λ (t : List ℕ). splice t (asks_offset most_hours) (zeros asks_size)) (book_image s h)
      ∙ write_cleared most_hours book_size here (book_fits s h) in
      let valid = stands_valid (with_asks here no_asks) (cleared_sound here (book_is_sound s h)) (cleared_stands here) in
      (w, rw w (image-is_book most_hours book_size (with_asks here no_asks) (omega arith) valid))
