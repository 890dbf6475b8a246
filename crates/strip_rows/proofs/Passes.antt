-- A check that is put to one number after the other, or to one row after the other: the first that it applies to, and what is left where
-- it does not apply.
use Rattle.std.specs.Prelude.{Err, Ok, None, Some}
use Prim.Native.Nat.{ℕ, zero, suc, ◌+◌, ◌*◌, ◌≤◌, ◌<◌}
use mathlib.Core.Path.{◌≡◌, sym, ◌∙◌}
use mathlib.Core.List.{List, map, map-map}
use mathlib.Core.Bool.{false}
use native.Mathlib.Nat.{mul-add}
use native.Mathlib.Numerals.{add-one}
use native.Mathlib.Omega.{arith}
use Rattle.rules.specs.declared.Refusal.{Refusal}
use Rattle.rules.specs.declared.Request.{Request}
use Rattle.rules.specs.Basics.{counting, Each}
use Rattle.rules.specs.Verdicts.{Check, Checked, applies, first_to_apply, checked}
use Rattle.rules.specs.Requests.{row_length, request_of, unreadable, row_checks}
use Rattle.rules.proofs.Basics.Searches.{each_map}
use Rattle.rules.proofs.Checks.Clearing.{checked-same, clear, clear_each, spared, applies_first, applies_later}
use Rattle.records.proofs.ReadingLaws.{check_here, check_next}
use Rattle.strip_rows.specs.Rows.{rows_from, row_of, requests_from}
use Rattle.strip_rows.specs.Passes.{readable_check, register_check, mapped_check}
use Rattle.strip_rows.proofs.RowsFrom.{rows_done, rows_step, any_row}

-- ---- a check of each number

module _ (f : ℕ → Check) (n from : ℕ) where
  -- no number is left
  pub pass_done : n ≤ 0 → first_to_apply (map f (counting n from)) ≡ None
  unfolding first_to_apply counting
  pass_done h = let e : n ≡ 0 = omega (arith, h) in rw e

  module _ (m : ℕ) (more : n ≡ m + 1) where
    -- the next number is it
    pub pass_here : (r : Refusal) → applies (f from) ≡ Some r → first_to_apply (map f (counting n from)) ≡ Some r
    unfolding counting
    pass_here r e = rw (more, add-one m) (check_here (f from) _ r e)

    -- the next number is passed
    pub pass_next : applies (f from) ≡ None → first_to_apply (map f (counting n from)) ≡ first_to_apply (map f (counting m (from + 1)))
    unfolding counting
    pass_next e = rw (more, add-one m, add-one from) (check_next (f from) _ e)

-- ---- what is said of each row is said of the rows by their numbers

module _ {A : Type 0} (f : List ℕ → A) (s : List ℕ) (at : ℕ) where
  rows_go : (n k : ℕ) → map f (rows_from s (at + row_length * k) n) ≡ map (λ i. f (row_of s at i)) (counting n k)
  unfolding counting
  rows_go zero k = rw (rows_done s (at + row_length * k) 0 (omega arith))
  rows_go (suc n) k =
      let next : at + row_length * k + row_length ≡ at + row_length * (k + 1) = omega (arith, mul-add row_length k 1) in
      rw (rows_step s (at + row_length * k) (suc n) n (omega arith), next, rows_go n (k + 1), add-one k)

  pub rows_by_number : (n : ℕ) → map f (rows_from s at n) ≡ map (λ i. f (row_of s at i)) (counting n 0)
  rows_by_number n = let e : at + row_length * 0 ≡ at = omega arith in rw e at (rows_go n 0)

-- what the checks of the rows by their numbers come to, those of the rows come to
module _ (f : List ℕ → Check) (s : List ℕ) (at n : ℕ) {a : Checked}
    (e : a ≡ checked (first_to_apply (map (λ i. f (row_of s at i)) (counting n 0)))) where
  pub rows_checked : a ≡ checked (first_to_apply (map f (rows_from s at n)))
  rows_checked = rw (rows_by_number f s at n) e

  pub row_refused : {r : Refusal} → a ≡ Err r → first_to_apply (map f (rows_from s at n)) ≡ Some r
  row_refused h = checked-same _ (Some _) (sym rows_checked ∙ h)

  pub rows_passed : a ≡ Ok tt → first_to_apply (map f (rows_from s at n)) ≡ None
  rows_passed h = checked-same _ None (sym rows_checked ∙ h)

-- and so of their requests
pub requests_checked : (f : Request → Check) (s : List ℕ) (at n : ℕ) {a : Checked}
    → a ≡ checked (first_to_apply (map (λ i. f (request_of (row_of s at i))) (counting n 0)))
    → a ≡ checked (first_to_apply (map f (requests_from s at n)))
requests_checked f s at n e = rows_checked (λ row. f (request_of row)) s at n e ∙ rw map-map

-- ---- 2, 3 and 4 of the rows, one pass after the other

module _ (rows : List (List ℕ)) where
  pub found_2 : {r : Refusal} → first_to_apply (map readable_check rows) ≡ Some r → first_to_apply (row_checks rows) ≡ Some r
  unfolding row_checks
  found_2 e = applies_first _ _ _ (applies_first _ _ _ e)

  module _ (e : first_to_apply (map readable_check rows) ≡ None) where
    -- their maps are readable
    rows_readable : Each (λ s. unreadable s ≡ false) rows
    rows_readable = each_map (λ s h. spared _ _ h) (clear_each readable_check rows (clear _ e))

    pub found_3 : {r : Refusal} → first_to_apply (map register_check rows) ≡ Some r → first_to_apply (row_checks rows) ≡ Some r
    unfolding row_checks
    found_3 f = applies_first _ _ _ (applies_later _ _ e ∙ f)

    pub found_4 : first_to_apply (map register_check rows) ≡ None → first_to_apply (row_checks rows) ≡ first_to_apply (map mapped_check rows)
    unfolding row_checks
    found_4 f = applies_later _ _ (applies_later _ _ e ∙ f)

-- and so is that of each number
pub row_readable : (s : List ℕ) (at n i : ℕ) → i < n → first_to_apply (map readable_check (rows_from s at n)) ≡ None
    → unreadable (row_of s at i) ≡ false
row_readable s at n i low e = any_row s at n i low (rows_readable (rows_from s at n) e)
