-- The tests of a row and of a schedule as code joins them, from the left, by the counts of a set-up; and a test of every number below n,
-- as one of entries side by side is.
use Prim.Native.Nat.{ℕ, zero, suc, ◌+◌, ◌*◌, ◌^◌, ◌≤◌, ◌<◌}
use mathlib.Core.Path.{◌≡◌, sym, ◌∙◌}
use mathlib.Core.Bool.{Bool, not, ◌&&◌, and_assoc, and-true}
use mathlib.Core.List.{List, [], ◌∷◌}
use native.Mathlib.Nat.{mul-add}
use native.Mathlib.Numerals.{add-one}
use native.Mathlib.Omega.{arith}
use lib.ListN.{take, drop}
use lib.Dec.{eqb, leb}
use borrow.Author.Tests.{lt-ltb}
use Rattle.rules.specs.declared.Row.{Row}
use Rattle.rules.specs.declared.Schedule.{Schedule}
use Rattle.rules.specs.Basics.{all_of, every, within, counting}
use Rattle.rules.specs.Limits.{most_energy, most_price}
use Rattle.rules.specs.Books.{Setup, account_count, point_count, periods}
use Rattle.rules.proofs.Basics.Tests.{chained, chained_all}
use Rattle.image.specs.Valid.{row_ok, schedule_ok}
use Rattle.image.proofs.Reading.RowsFrom.{cells_from, from_done, from_step}

-- the tests of a row but its first, and but that of its code
abbrev pub row_rest : ℕ → ℕ → Row → List Bool
row_rest accounts hours r =
    within 1 r.counterparty accounts
    ∷ not (eqb r.proposer r.counterparty)
    ∷ within 1 r.side 2
    ∷ within 1 r.first hours
    ∷ within r.first r.last hours
    ∷ within 1 r.quantity.0 most_energy
    ∷ within 1 r.status 3
    ∷ []

-- a code in its 8 bytes is in range
pub row_by_counts : (u : Setup) (r : Row) (accounts hours : ℕ) → account_count u ≡ accounts → periods u ≡ hours → r.code < 256 ^ 8
    → chained (within 1 r.proposer accounts) (row_rest accounts hours r) ≡ row_ok u r
unfolding row_ok all_of
row_by_counts u r accounts hours a h l =
    chained_all (within 1 r.proposer accounts) (row_rest accounts hours r) ∙ rw (a, h, lt-ltb r.code (256 ^ 8) l)

-- the tests of a schedule but its first
abbrev pub schedule_rest : ℕ → Schedule → List Bool
schedule_rest hours x = within 1 x.side 2 ∷ within 1 x.hour hours ∷ within 1 x.quantity.0 most_energy ∷ leb x.price.0 most_price ∷ []

pub schedule_by_counts : (u : Setup) (x : Schedule) (points hours : ℕ) → point_count u ≡ points → periods u ≡ hours
    → chained (within 1 x.point points) (schedule_rest hours x) ≡ schedule_ok u x
unfolding schedule_ok all_of
schedule_by_counts u x points hours p h = chained_all (within 1 x.point points) (schedule_rest hours x) ∙ rw (p, h)

-- ---- a test of every number below n

module _ (p : ℕ → Bool) where
  -- none is left
  pub passed_all : (ok : Bool) (n from : ℕ) → n ≤ 0 → (ok && every p (counting n from)) ≡ ok
  unfolding every counting
  passed_all ok zero from h = and-true ok
  passed_all ok (suc n) from h = absurd (omega arith)

  -- and one more is tested
  pub passed_next : (ok t : Bool) (n m from : ℕ) → n ≡ m + 1 → t ≡ p from
      → (ok && every p (counting n from)) ≡ ((ok && t) && every p (counting m (from + 1)))
  unfolding every counting
  passed_next ok t n m from e d = rw (e, add-one m, add-one from, d) (sym (and_assoc ok _ _))

-- a test of entries side by side is one of their numbers
module _ {A : Type 0} (read : List ℕ → A) (w : ℕ) (test : A → Bool) (s : List ℕ) (at : ℕ) where
  tests_from : (n k : ℕ) → every test (cells_from read w s (at + w * k) n) ≡ every (λ i. test (read (take w (drop (at + w * i) s)))) (counting n k)
  unfolding every counting
  tests_from zero k = rw (from_done read w s (at + w * k) 0 (omega arith))
  tests_from (suc n) k =
      let next : at + w * k + w ≡ at + w * (k + 1) = omega (arith, mul-add w k 1) in
      rw (from_step read w s (at + w * k) (suc n) n (omega arith), next, tests_from n (k + 1), add-one k)

  pub tests_by_number : (n : ℕ) → every test (cells_from read w s at n) ≡ every (λ i. test (read (take w (drop (at + w * i) s)))) (counting n 0)
  tests_by_number n = let e : at + w * 0 ≡ at = omega arith in rw e at (tests_from n 0)
