-- Opening as code runs it: what is left of the operators runs down, and the size of the buffer is looked at before the set-up.
use Rattle.std.specs.Prelude.{None, Some}
use Prim.Native.Nat.{ℕ, zero, suc, ◌+◌, ◌*◌, ◌≤◌}
use mathlib.Core.Path.{◌≡◌, refl}
use mathlib.Core.List.{List}
use mathlib.Core.Bool.{true}
use native.Mathlib.Numerals.{add-one}
use native.Mathlib.Omega.{arith}
use lib.ListN.{length, take, drop}
use borrow.Author.Tests.{eq-eqb, ne_eqb}
use Rattle.wire.specs.Numbers.{le, Bytes}
use Rattle.wire.specs.Regions.{splice}
use Rattle.wire.specs.Parts.{zeros}
use Rattle.wire.proofs.ZeroLaws.{le_zero}
use Rattle.rules.specs.declared.Counts.{Counts}
use Rattle.rules.specs.declared.Refusal.{Refusal}
use Rattle.rules.specs.declared.Refusal.TheVariants.{NotABook}
use Rattle.rules.specs.Limits.{book_size, most_operators}
use Rattle.rules.specs.Verdicts.{first_to_apply, accepted, refused}
use Rattle.rules.specs.Opening.{counts_in, operators_offset, setup_refusal, open_refusal, open_outcome, opened, guarantee_width, operator_entry}
use Rattle.rules.proofs.Checks.Clearing.{clear, clear_applies}
use Rattle.rules.proofs.Setups.SetupShape.{accepted_shape}
use Rattle.image.specs.Layout.{setup_room, phase_offset, present_offset}
use Rattle.image.specs.Valid.{is_book, book_bytes}
use Rattle.image.proofs.Writing.Sizes.{Fits, fits}
use Rattle.image.proofs.Setups.SetupAgain.{length_guarantees}
use Rattle.image.proofs.Keeping.Opened.{opened_sound, opened_is_book}
use Rattle.book.specs.Fresh.{guarantees_cleared, guarantees_put}
use Rattle.book.specs.Answers.{open_bytes}
use Rattle.book.proofs.OpenedBytes.{length_stored_opened, opening_writes}

-- ---- the guarantees made zero

module _ (s : List ℕ) (at : ℕ) where
  pub guarantees_cleared_done : (n : ℕ) → n ≤ 0 → guarantees_cleared s at n ≡ s
  unfolding guarantees_cleared
  guarantees_cleared_done zero h = refl
  guarantees_cleared_done (suc n) h = absurd (omega arith)

  pub guarantees_cleared_step : (n m : ℕ) → n ≡ m + 1 → guarantees_cleared s at n ≡ guarantees_cleared (splice s at (le guarantee_width 0)) (at + operator_entry) m
  unfolding guarantees_cleared
  guarantees_cleared_step n m e = rw (e, add-one m, le_zero guarantee_width)

-- ---- the guarantees put into the book

module _ (d : List ℕ) (at : ℕ) (s : List ℕ) (from : ℕ) where
  pub guarantees_put_done : (n : ℕ) → n ≤ 0 → guarantees_put d at s from n ≡ d
  unfolding guarantees_put
  guarantees_put_done zero h = refl
  guarantees_put_done (suc n) h = absurd (omega arith)

  pub guarantees_put_step : (n m w : ℕ) → n ≡ m + 1 → w ≡ guarantee_width → guarantees_put d at s from n ≡ guarantees_put (splice d at (take w (drop from s))) (at + guarantee_width) s (from + operator_entry) m
  unfolding guarantees_put
  guarantees_put_step n m w e k = rw (e, add-one m, k)

-- ---- an accepted set-up

-- the counts and the operators stand in it, and it fits its room
pub record Openable (n : Counts) (s : List ℕ) : Type 0 where
  pub long : 5 ≤ length s
  pub whole : operators_offset n + operator_entry * n.operators ≤ length s
  pub short : length s ≤ setup_room
  pub few : n.operators ≤ most_operators

module _ (s : List ℕ) (b : Bytes s) (h : setup_refusal s ≡ None) where
  pub openable : {n : Counts} → n ≡ counts_in s → Openable n s
  unfolding opened
  openable e =
      let f : Fits (opened s) = fits (opened s) (opened_sound s h) in
      let l = (accepted_shape s h).exact in
      let ls = length_stored_opened s b h in
      let lg = length_guarantees s in
      let fs = f.setup_fits in
      let fg = f.part_fits.guarantees_fit in
      record {
        long = omega arith;
        whole = rw e (omega arith);
        short = omega arith;
        few = rw e (omega arith);
      }

  -- what is written, write by write, is the fresh book
  pub written_fresh : {n : Counts} → n ≡ counts_in s → {from size : ℕ} → from ≡ operators_offset n → size ≡ book_size → {x y z : List ℕ}
      → x ≡ guarantees_cleared (splice (zeros size) 0 s) from n.operators
      → y ≡ splice x phase_offset (le 1 1)
      → z ≡ guarantees_put y present_offset s from n.operators
      → z ≡ book_bytes (opened s)
  written_fresh en ef es ex ey ez = rw (ez, ey, ex, ef, en, es) (opening_writes _ book_size s b h (omega arith))

-- ---- what opening is refused for

module _ (s book : List ℕ) where
  pub other_size : (length book ≡ book_size → ⊥) → open_refusal s book ≡ Some NotABook
  unfolding open_refusal first_to_apply
  other_size h = rw (ne_eqb _ _ h)

  pub setup_decides : length book ≡ book_size → open_refusal s book ≡ setup_refusal s
  unfolding open_refusal setup_refusal first_to_apply
  setup_decides h = rw (eq-eqb _ _ h)

  -- a refusal is answered, and changes no byte
  pub refused_unchanged : (r : Refusal) → open_refusal s book ≡ Some r → (refused r ≡ open_outcome s book) × (book ≡ open_bytes s book)
  unfolding open_outcome open_bytes
  refused_unchanged r e = (rw e, rw e)

  -- without one the fresh book is there
  pub accepted_fresh : {x : List ℕ} → open_refusal s book ≡ None → x ≡ book_bytes (opened s) → (accepted 0 ≡ open_outcome s book) × (x ≡ open_bytes s book)
  unfolding open_outcome open_bytes
  accepted_fresh e f = (rw e, rw e f)

  -- which is a book
  pub open_leaves_a_book : open_refusal s book ≡ None → is_book (open_bytes s book) ≡ true
  unfolding open_bytes open_refusal setup_refusal
  open_leaves_a_book h = rw h (opened_is_book s (clear_applies _ (clear _ h).1) _ book_size (omega arith))
