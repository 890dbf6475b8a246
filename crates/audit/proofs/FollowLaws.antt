-- Saved rows followed by present ones, row by row as both stand in bytes.
use Prim.Native.Nat.{ℕ, zero, suc, ◌+◌, ◌*◌, ◌≤◌, ◌<◌}
use mathlib.Core.Path.{◌≡◌, refl}
use mathlib.Core.Bool.{Bool, false, ◌&&◌, ◌||◌, and-false}
use mathlib.Core.List.{List, [], ◌∷◌}
use native.Mathlib.Numerals.{add-one}
use native.Mathlib.Omega.{arith}
use lib.ListN.{length, take, drop}
use lib.Dec.{eqb}
use Rattle.rules.specs.declared.Row.{Row}
use Rattle.rules.specs.Basics.{every, counting}
use Rattle.rules.specs.Registration.{pending, same_terms}
use Rattle.image.specs.Image.{row_in}
use Rattle.image.specs.Valid.{follows}
use Rattle.image.specs.Cells.{rows_from}
use Rattle.image.specs.Layout.{row_width}
use Rattle.image.proofs.Reading.RowsFrom.{rows_done, rows_step, length_rows}

-- a saved row, and what it can since have become
abbrev pub row_follows : Row → Row → Bool
row_follows x y = same_terms x y && (eqb x.status y.status || pending x)

-- more saved rows than present ones
pub follows-more : (xs ys : List Row) → length ys < length xs → follows xs ys ≡ false
unfolding follows
follows-more [] ys h = absurd (omega arith)
follows-more (x ∷ xs) [] h = refl
follows-more (x ∷ xs) (y ∷ ys) h = rw (follows-more xs ys (omega arith)) (and-false (row_follows x y))

pub follows_short : (s : List ℕ) (i k n q : ℕ) → q < n → follows (rows_from s i n) (rows_from s k q) ≡ false
follows_short s i k n q h = follows-more _ _ (rw (length_rows s k q, length_rows s i n) h)

-- no more saved rows than present ones: each is compared with the present one of its number
module _ (s : List ℕ) (from at : ℕ) where
  row_of : ℕ → ℕ → Row
  row_of start i = row_in (take row_width (drop (start + row_width * i) s))

  next : (start k : ℕ) → start + row_width * k + row_width ≡ start + row_width * (k + 1)
  next start k = omega arith

  follows_from : (m n k : ℕ) → m ≤ n
      → follows (rows_from s (from + row_width * k) m) (rows_from s (at + row_width * k) n) ≡ every (λ i. row_follows (row_of from i) (row_of at i)) (counting m k)
  unfolding follows every counting row_of
  follows_from zero n k h = rw (rows_done s (from + row_width * k) 0 (omega arith))
  follows_from (suc m) zero k h = absurd (omega arith)
  follows_from (suc m) (suc n) k h =
      rw (rows_step s (from + row_width * k) (suc m) m (omega arith), rows_step s (at + row_width * k) (suc n) n (omega arith), next from k, next at k, follows_from m n (k + 1) (omega arith), add-one k)

  pub follows_by_number : (m n : ℕ) → m ≤ n
      → follows (rows_from s from m) (rows_from s at n)
      ≡ every (λ i. row_follows (row_in (take row_width (drop (from + row_width * i) s))) (row_in (take row_width (drop (at + row_width * i) s)))) (counting m 0)
  unfolding row_of
  follows_by_number m n h =
      let e : from + row_width * 0 ≡ from = omega arith in
      let d : at + row_width * 0 ≡ at = omega arith in
      rw (e, d) at (follows_from m n 0 h)
