-- Cells that stand in bytes from a place on, what each says: the first is read there, and the others stand one width further.
use Prim.Native.Nat.{ℕ, zero, suc, ◌+◌, ◌*◌, ◌≤◌, ◌<◌}
use mathlib.Core.Path.{◌≡◌, refl, sym, ap, ◌∙◌}
use mathlib.Core.Bool.{Bool, true, false, not, ◌&&◌, and_assoc, and-true}
use mathlib.Core.List.{List, [], ◌∷◌, map}
use native.Mathlib.Numerals.{add-one}
use native.Mathlib.Omega.{arith}
use lib.ListN.{length, get_or, take, drop, length-map}
use lib.Seq.{drop-drop}
use Rattle.wire.specs.Parts.{chunks}
use Rattle.wire.proofs.SlotLaws.{length-chunks, chunk_at, map_get}
use Rattle.rules.specs.declared.Row.{Row}
use Rattle.rules.specs.Basics.{any_passes, every}
use Rattle.image.specs.Image.{row_in}
use Rattle.image.specs.Cells.{rows_from}
use Rattle.image.specs.Layout.{row_width}

-- ---- cells of any width, whatever they say

module _ {A : Type 0} (say : List ℕ → A) (w : ℕ) where
  -- what n cells from `at` on say
  abbrev pub cells_from : List ℕ → ℕ → ℕ → List A
  cells_from s at n = map say (chunks w n (drop at s))

  pub from_done : (s : List ℕ) (at n : ℕ) → n ≤ 0 → cells_from s at n ≡ []
  unfolding chunks
  from_done s at zero h = refl
  from_done s at (suc n) h = absurd (omega arith)

  pub from_step : (s : List ℕ) (at n m : ℕ) → n ≡ m + 1 → cells_from s at n ≡ say (take w (drop at s)) ∷ cells_from s (at + w) m
  unfolding chunks
  from_step s at n m e = rw (e, add-one m, chunks, drop-drop w at s)

  -- a test of all is what was tested so far, with the test of those left: none is left
  pub every_done : {all : Bool} (ok : Bool) (p : A → Bool) (s : List ℕ) (at n : ℕ) → n ≤ 0 → all ≡ (ok && every p (cells_from s at n)) → ok ≡ all
  unfolding every
  every_done ok p s at n h e = sym (e ∙ rw (from_done s at n h, every) (and-true ok))

  -- and one more is tested
  pub every_step : {all t : Bool} {x : A} (ok : Bool) (p : A → Bool) (s : List ℕ) (at n m : ℕ) → n ≡ m + 1 → x ≡ say (take w (drop at s))
      → t ≡ p x → all ≡ (ok && every p (cells_from s at n)) → all ≡ ((ok && t) && every p (cells_from s (at + w) m))
  unfolding every
  every_step ok p s at n m d r h e = e ∙ rw (from_step s at n m d, every, h, r) (sym (and_assoc ok _ _))

-- none passes a test where each fails it
pub not_any : {A : Type 0} (p : A → Bool) (xs : List A) → not (any_passes p xs) ≡ every (λ x. not (p x)) xs
unfolding any_passes every
not_any p [] = refl
not_any p (x ∷ xs) = go (p x) refl (not_any p xs)
  where
    go : (t : Bool) → p x ≡ t → not (any_passes p xs) ≡ every (λ y. not (p y)) xs → not (any_passes p (x ∷ xs)) ≡ every (λ y. not (p y)) (x ∷ xs)
    go true e ih = rw (e, any_passes, every)
    go false e ih = rw (e, any_passes, every) ih

-- ---- rows

pub rows_done : (s : List ℕ) (at n : ℕ) → n ≤ 0 → rows_from s at n ≡ []
unfolding rows_from
rows_done s at n h = from_done row_in row_width s at n h

pub rows_step : (s : List ℕ) (at n m : ℕ) → n ≡ m + 1 → rows_from s at n ≡ row_in (take row_width (drop at s)) ∷ rows_from s (at + row_width) m
unfolding rows_from
rows_step s at n m e = from_step row_in row_width s at n m e

pub length_rows : (s : List ℕ) (at n : ℕ) → length (rows_from s at n) ≡ n
unfolding rows_from
length_rows s at n = length-map (chunks row_width n (drop at s)) row_in ∙ length-chunks row_width n (drop at s)

-- row i stands 18 * i further
pub row_get : (s : List ℕ) (at n i : ℕ) (d : Row) → i < n → get_or (rows_from s at n) i d ≡ row_in (take row_width (drop (at + row_width * i) s))
unfolding rows_from
row_get s at n i d h =
    let l = length-chunks row_width n (drop at s) in
    map_get row_in (chunks row_width n (drop at s)) i [] d (omega arith)
    ∙ ap row_in (chunk_at row_width n (drop at s) i h ∙ ap (take row_width) (drop-drop (row_width * i) at s))
