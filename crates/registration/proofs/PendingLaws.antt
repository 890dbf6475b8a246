-- The search for a pending row: its tests as the bytes have them, and the number found, row by row.
use Rattle.std.specs.Prelude.{Option, None, Some}
use Rattle.std.proofs.Common.{◌≡◌, ℕ, zero, suc, ◌+◌, ◌≤◌, Bool, true, false, ◌&&◌, eqb, List, ◌∷◌, length, take, drop, sym, refl, ap, ◌∙◌, arith, eq-eqb, ne_eqb}
use mathlib.Core.Bool.{and-true, and-false}
use Rattle.wire.specs.Numbers.{number_at}
use Rattle.rules.specs.declared.Row.{Row}
use Rattle.rules.specs.Basics.{index_of}
use Rattle.rules.specs.Books.{no_row}
use Rattle.rules.specs.Registration.{alike}
use Rattle.rules.specs.Calls.{number_from}
use Rattle.rules.proofs.Basics.Searches.{index_first}
use Rattle.image.specs.Image.{row_in}
use Rattle.image.specs.Cells.{rows_from}
use Rattle.image.specs.Layout.{row_width}
use Rattle.image.proofs.Reading.RowBytes.{row_at}
use Rattle.image.proofs.Reading.RowsFrom.{rows_done, rows_step}
use Rattle.registration.specs.Confirming.{some_number}

-- ---- the tests of a row, of what was read of it

module _ (s : List ℕ) (at proposer counterparty code : ℕ) {v : ℕ} (d : v ≡ number_at s (at + 2) 8) where
  -- a row of another code is not it
  pub another_code : (v ≡ code → ⊥) → false ≡ alike proposer counterparty code (row_in (take row_width (drop at s)))
  unfolding alike
  another_code n = rw (row_at s at, ← d, ne_eqb v code n, and-false)

  -- the code agrees, so that the rest decides
  pub rest_decides : {status first second : ℕ} → v ≡ code → status ≡ number_at s (at + 17) 1 → first ≡ number_at s at 1 → second ≡ number_at s (at + 1) 1
      → (eqb status 1 && eqb first proposer && eqb second counterparty) ≡ alike proposer counterparty code (row_in (take row_width (drop at s)))
  unfolding alike
  rest_decides same a b c = rw (row_at s at, ← a, ← b, ← c, ← d, eq-eqb v code same, and-true)

-- a number that is counted from 1 is some number
number_some : (n passed : ℕ) → n ≡ passed + 1 → Some (passed + 1) ≡ some_number n
number_some zero passed e = absurd (omega arith)
number_some (suc i) passed e = ap Some (sym e)

-- ---- row by row

-- the number of the row found, past those that were passed
unfoldable pub numbered : ℕ → Option ℕ → ℕ
numbered passed None = 0
numbered passed (Some i) = passed + i + 1

module _ (p : Row → Bool) where
  index_here : (x : Row) (xs : List Row) → p x ≡ true → index_of p (x ∷ xs) ≡ Some 0
  unfolding index_of
  index_here x xs e = rw (e, index_of)

  index_next : (x : Row) (xs : List Row) (passed : ℕ) → p x ≡ false → numbered passed (index_of p (x ∷ xs)) ≡ numbered (passed + 1) (index_of p xs)
  unfolding index_of numbered
  index_next x xs passed e = rw (e, index_of) (go (index_of p xs))
    where
      go : (o : Option ℕ) → numbered passed (elim o [ None ↦ None | Some i ↦ Some (suc i) ]) ≡ numbered (passed + 1) o
      go None = refl
      go (Some i) = omega arith

  -- at first none is passed
  pub none_passed : (s : List ℕ) (at n from m : ℕ) → from ≡ at → m ≡ n → number_from (index_of p (rows_from s at n)) ≡ numbered 0 (index_of p (rows_from s from m))
  unfolding numbered
  none_passed s at n from m first all = rw (first, all) (go (index_of p (rows_from s at n)))
    where
      go : (o : Option ℕ) → number_from o ≡ numbered 0 o
      go None = refl
      go (Some i) = omega arith

  module _ (s : List ℕ) (at n number passed : ℕ) (left : number ≡ numbered passed (index_of p (rows_from s at n))) where
    -- no row is left
    pub number_none : n ≤ 0 → None ≡ some_number number
    unfolding index_of numbered
    number_none h = rw (left, rows_done s at n h)

    module _ (m : ℕ) (more : n ≡ m + 1) where
      -- the next row is it
      pub number_here : p (row_in (take row_width (drop at s))) ≡ true → Some (passed + 1) ≡ some_number number
      unfolding numbered
      number_here e =
          number_some _ _
          (left ∙ rw (rows_step s at n m more, index_here (row_in (take row_width (drop at s))) (rows_from s (at + row_width) m) e) (omega arith))

      -- the next row is passed
      pub number-next : p (row_in (take row_width (drop at s))) ≡ false → number ≡ numbered (passed + 1) (index_of p (rows_from s (at + row_width) m))
      number-next e = left ∙ rw (rows_step s at n m more) (index_next _ (rows_from s (at + row_width) m) passed e)

  -- a number found is that of a row
  pub number_high : (rows : List Row) → number_from (index_of p rows) ≤ length rows
  number_high rows = go (index_of p rows) refl
    where
      go : (o : Option ℕ) → index_of p rows ≡ o → number_from o ≤ length rows
      go None e = omega arith
      go (Some i) e = (index_first p no_row rows i e).inside

  -- so that some number is that of a row
  pub row_found : (rows : List Row) (n : ℕ) → Some n ≡ some_number (number_from (index_of p rows)) → (1 ≤ n) × (n ≤ length rows)
  row_found rows n e = go (number_from (index_of p rows)) (number_high rows) e
    where
      go : (k : ℕ) → k ≤ length rows → Some n ≡ some_number k → (1 ≤ n) × (n ≤ length rows)
      go zero h w = cc
      go (suc i) h w = let same : n ≡ suc i = cc in (omega (arith, same), omega (arith, same, h))
