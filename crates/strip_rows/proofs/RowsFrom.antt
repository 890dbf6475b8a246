-- The rows of a strip from a place on: the first stands there, and the others stand one row further.
use Prim.Native.Nat.{ℕ, zero, suc, ◌+◌, ◌-◌, ◌*◌, ◌≤◌, ◌<◌}
use mathlib.Core.Path.{◌≡◌, refl}
use mathlib.Core.List.{List, [], ◌∷◌}
use native.Mathlib.Numerals.{add-one}
use native.Mathlib.Omega.{arith}
use lib.ListN.{length, take, drop, length-take, length-drop}
use lib.Seq.{drop-drop}
use Rattle.wire.specs.Parts.{chunks}
use Rattle.rules.specs.Basics.{Each}
use Rattle.rules.specs.Requests.{row_length}
use Rattle.rules.proofs.Basics.Searches.{first_and_rest}
use Rattle.strip_rows.specs.Rows.{rows_from, row_of}

pub rows_done : (s : List ℕ) (at n : ℕ) → n ≤ 0 → rows_from s at n ≡ []
unfolding rows_from chunks
rows_done s at zero h = refl
rows_done s at (suc n) h = absurd (omega arith)

pub rows_step : (s : List ℕ) (at n m : ℕ) → n ≡ m + 1 → rows_from s at n ≡ take row_length (drop at s) ∷ rows_from s (at + row_length) m
unfolding rows_from chunks
rows_step s at n m e = rw (e, add-one m, chunks, drop-drop row_length at s)

-- what each row has, the first has, and each of the others
pub rows_split : {P : List ℕ → Type 0} (s : List ℕ) (at n m : ℕ) → n ≡ m + 1 → Each P (rows_from s at n)
    → P (take row_length (drop at s)) × Each P (rows_from s (at + row_length) m)
rows_split s at n m e h = first_and_rest (rw (rows_step s at n m e) at h)

-- and each of them, by its number
pub any_row : {P : List ℕ → Type 0} (s : List ℕ) (at n i : ℕ) → i < n → Each P (rows_from s at n) → P (row_of s at i)
any_row s at n zero low h = let e : at + row_length * 0 ≡ at = omega arith in rw e (rows_split s at n (n - 1) (omega arith) h).0
any_row s at n (suc i) low h =
    let e : at + row_length * suc i ≡ at + row_length + row_length * i = omega arith in
    rw e (any_row s (at + row_length) (n - 1) i (omega arith) (rows_split s at n (n - 1) (omega arith) h).1)

-- a row that lies in the bytes has its length
pub row_length_lem : (s : List ℕ) (at : ℕ) → at + row_length ≤ length s → length (take row_length (drop at s)) ≡ row_length
row_length_lem s at h = simp (length-take, length-drop) (omega arith)

-- the bytes from the row's first place up to the next row's
pub part_row : (s : List ℕ) (at : ℕ) → take (at + row_length - at) (drop at s) ≡ take row_length (drop at s)
part_row s at = let e : at + row_length - at ≡ row_length = omega arith in rw e
