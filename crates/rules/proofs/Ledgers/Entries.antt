-- The ledger's pending entries are the book's pending rows with their numbers: each change of the rows ends or adds the same one, since
-- both look for the first row that passes the same test.
use Rattle.std.specs.Prelude.{Option, None, Some}
use Prim.Native.Nat.{ℕ, zero, suc, ◌+◌}
use mathlib.Core.Path.{◌≡◌, refl, sym, ap}
use mathlib.Core.List.{List, [], ◌∷◌, ◌++◌}
use mathlib.Core.Bool.{Bool, true, false}
use native.Mathlib.Omega.{arith}
use native.Mathlib.Nat.{add-zero}
use lib.ListN.{length}
use lib.Dec.{eqb}
use borrow.Author.Tests.{eq-eqb, ne_eqb}
use Rattle.rules.specs.declared.Row.{Row}
use Rattle.rules.specs.Basics.{total, index_of, nth}
use Rattle.rules.specs.Books.{no_row}
use Rattle.rules.specs.Registration.{pending, mark, closed, alike}
use Rattle.rules.specs.Ledger.{Entry, without}
use Rattle.rules.proofs.Rows.RowTests.{alike-ended}

-- the pending ones of rows that are numbered from n on
unfoldable pub entries_from : ℕ → List Row → List Entry
entries_from n [] = []
entries_from n (r ∷ rs) =
    elim (pending r) [ true ↦ record { number = n; row = r } ∷ entries_from (suc n) rs | false ↦ entries_from (suc n) rs ]

abbrev pub entries_of : List Row → List Entry
entries_of rows = entries_from 1 rows

-- ---- sums

-- a sum in which rows that are not pending have no share is a sum over the entries
module _ (f g : Row → ℕ) (held : (r : Row) → pending r ≡ true → f r ≡ g r) (ended : (r : Row) → pending r ≡ false → f r ≡ 0) where
  total_go : (n : ℕ) (r : Row) (rs : List Row) (t : Bool) → pending r ≡ t
      → total f rs ≡ total (λ e. g e.row) (entries_from (suc n) rs)
      → total f (r ∷ rs) ≡ total (λ e. g e.row) (entries_from n (r ∷ rs))
  unfolding total entries_from
  total_go n r rs true e ih = let h = held r e in rw (e, entries_from) (omega arith)
  total_go n r rs false e ih = let h = ended r e in rw (e, entries_from) (omega arith)

  pub total_entries : (n : ℕ) (rows : List Row) → total f rows ≡ total (λ e. g e.row) (entries_from n rows)
  unfolding total entries_from
  total_entries n [] = refl
  total_entries n (r ∷ rs) = total_go n r rs (pending r) refl (total_entries (suc n) rs)

-- ---- register: one more, with the next number

snoc_go : (n : ℕ) (x r : Row) (xs : List Row) (t : Bool) → pending x ≡ t
    → entries_from (suc n) (xs ++ r ∷ []) ≡ entries_from (suc n) xs ++ record { number = suc n + length xs; row = r } ∷ []
    → entries_from n (x ∷ (xs ++ r ∷ [])) ≡ entries_from n (x ∷ xs) ++ record { number = n + suc (length xs); row = r } ∷ []
unfolding entries_from
snoc_go n x r xs true e ih = let z : suc n + length xs ≡ n + suc (length xs) = omega arith in rw (e, entries_from, ih, z)
snoc_go n x r xs false e ih = let z : suc n + length xs ≡ n + suc (length xs) = omega arith in rw (e, entries_from, ih, z)

pub entries_register : (n : ℕ) (rows : List Row) (r : Row) → pending r ≡ true
    → entries_from n (rows ++ r ∷ []) ≡ entries_from n rows ++ record { number = n + length rows; row = r } ∷ []
unfolding entries_from
entries_register n [] r p = rw (p, entries_from) (ap (λ (n : ℕ). record { number = n; row = r } ∷ []) (sym (add-zero n)))
entries_register n (x ∷ xs) r p = snoc_go n x r xs (pending x) refl (entries_register (suc n) xs r p)

-- ---- confirm: the row found in the book is the first that passes in the ledger

module _ (t : Row → Bool) (only : (r : Row) → pending r ≡ false → t r ≡ false) (status : ℕ) (ends : eqb status 1 ≡ false) where
  confirm_go : (n i : ℕ) (r : Row) (rs : List Row) (s : Bool) → t r ≡ s → (p : Bool) → pending r ≡ p → (o : Option ℕ) → index_of t rs ≡ o
      → ((j : ℕ) → index_of t rs ≡ Some j
      → without (λ e. t e.row) (entries_from (suc n) rs) ≡ entries_from (suc n) (mark (suc j) status rs))
      → index_of t (r ∷ rs) ≡ Some i
      → without (λ e. t e.row) (entries_from n (r ∷ rs)) ≡ entries_from n (mark (suc i) status (r ∷ rs))
  unfolding index_of without entries_from mark
  confirm_go n i r rs true d true e o f ih h =
      let z : Some 0 ≡ Some i = rw (d, index_of) at h in
      let y : 0 ≡ i = cc in
      rw (← y, e, entries_from, d, without, ends)
  confirm_go n i r rs true d false e o f ih h = let z = only r e in let y : true ≡ false = cc in cc
  confirm_go n i r rs false d p e None f ih h = let z : None ≡ Some i = rw (d, index_of, f) at h in cc
  confirm_go n i r rs false d true e (Some j) f ih h =
      let z : Some (suc j) ≡ Some i = rw (d, index_of, f) at h in
      let y : suc j ≡ i = cc in
      rw (← y, e, entries_from, d, without) (ap (λ (l : List Entry). record { number = n; row = r } ∷ l) (ih j f))
  confirm_go n i r rs false d false e (Some j) f ih h =
      let z : Some (suc j) ≡ Some i = rw (d, index_of, f) at h in
      let y : suc j ≡ i = cc in
      rw (← y, e, entries_from) (ih j f)

  pub entries_first : (n i : ℕ) (rows : List Row) → index_of t rows ≡ Some i
      → without (λ e. t e.row) (entries_from n rows) ≡ entries_from n (mark (suc i) status rows)
  unfolding index_of
  entries_first n i [] h = cc
  entries_first n i (r ∷ rs) h =
      confirm_go n i r rs (t r) refl (pending r) refl (index_of t rs) refl (λ j. entries_first (suc n) j rs) h

-- the row that is named by proposer, counterparty and code
pub entries_confirm : (p c k i : ℕ) (rows : List Row) → index_of (alike p c k) rows ≡ Some i
    → without (λ e. alike p c k e.row) (entries_of rows) ≡ entries_of (mark (suc i) 2 rows)
entries_confirm p c k i rows h = entries_first (alike p c k) (alike-ended p c k) 2 refl 1 i rows h

-- ---- withdraw: the row of that number

numbered_go : (n i : ℕ) (r : Row) (rs : List Row) (t : Bool) → pending r ≡ t
    → without (λ e. eqb e.number (suc n + i)) (entries_from (suc n) rs) ≡ entries_from (suc n) (mark (suc i) 3 rs)
    → without (λ e. eqb e.number (n + suc i)) (entries_from n (r ∷ rs)) ≡ entries_from n (mark (suc (suc i)) 3 (r ∷ rs))
unfolding without entries_from mark
numbered_go n i r rs t e ih = go t e (rw (the_number) at ih)
  where
    the_number : suc n + i ≡ n + suc i
    the_number = omega arith

    go : (t : Bool) → pending r ≡ t
        → without (λ e. eqb e.number (n + suc i)) (entries_from (suc n) rs) ≡ entries_from (suc n) (mark (suc i) 3 rs)
        → without (λ e. eqb e.number (n + suc i)) (entries_from n (r ∷ rs)) ≡ entries_from n (mark (suc (suc i)) 3 (r ∷ rs))
    go true e ih =
        rw (e, entries_from, ne_eqb n (n + suc i) (λ x. omega arith), without)
        (ap (λ (l : List Entry). record { number = n; row = r } ∷ l) ih)
    go false e ih = rw (e, entries_from) ih

numbered : (n i : ℕ) (rows : List Row) → pending (nth rows (suc i) no_row) ≡ true
    → without (λ e. eqb e.number (n + i)) (entries_from n rows) ≡ entries_from n (mark (suc i) 3 rows)
unfolding without entries_from mark
numbered n i [] p = refl
numbered n zero (r ∷ rs) p = rw (p, entries_from, eq-eqb n (n + 0) (omega arith), without)
numbered n (suc i) (r ∷ rs) p = numbered_go n i r rs (pending r) refl (numbered (suc n) i rs p)

pub entries_withdraw : (n : ℕ) (rows : List Row) → pending (nth rows n no_row) ≡ true
    → without (λ e. eqb e.number n) (entries_of rows) ≡ entries_of (mark n 3 rows)
entries_withdraw zero rows p = let z : ◌≡◌ {A = ℕ} 0 1 = cc in absurd (omega arith)
entries_withdraw (suc i) rows p = let z : 1 + i ≡ suc i = omega arith in rw z at (numbered 1 i rows p)

-- ---- close gate: none is left

pub entries_close : (n : ℕ) (rows : List Row) → entries_from n (closed rows) ≡ []
unfolding entries_from closed
entries_close n [] = refl
entries_close n (r ∷ rs) = go (pending r) refl (entries_close (suc n) rs)
  where
    go : (t : Bool) → pending r ≡ t → entries_from (suc n) (closed rs) ≡ [] → entries_from n (closed (r ∷ rs)) ≡ []
    go true e ih = rw e ih
    go false e ih = rw (e, entries_from, e) ih
