-- Loops over the rows of a strip: rows that are appended one by one, and sales that are summed one by one.
use Prim.Native.Nat.{ℕ, ◌+◌, ◌≤◌}
use mathlib.Core.Path.{◌≡◌}
use mathlib.Core.List.{List, map}
use native.Mathlib.Omega.{arith}
use Rattle.rules.specs.declared.Row.{Row}
use Rattle.rules.specs.declared.Request.{Request}
use Rattle.rules.specs.Basics.{total, Each}
use Rattle.rules.specs.Requests.{row_length, request_of}
use Rattle.rules.specs.Registration.{proposed}
use Rattle.rules.proofs.Basics.Searches.{first_and_rest}
use Rattle.registration.specs.Proposing.{row_appended, rows_appended}
use Rattle.strip_rows.specs.Rows.{requests_from}
use Rattle.strip_rows.proofs.RowSteps.{row_at, requests_step, requests_done}

-- the rows that the n rows from `at` on propose
abbrev pub proposed_from : List ℕ → ℕ → ℕ → List Row
proposed_from s at n = map proposed (requests_from s at n)

module _ (s : List ℕ) (at n m : ℕ) (e : n ≡ m + 1) {q : Request} (read : q ≡ request_of (row_at s at)) where
  -- what holds of the requests that are left holds of the first and of the others
  pub first_has : {P : Request → Type 0} → Each P (requests_from s at n) → P q × Each P (requests_from s (at + row_length) m)
  first_has h = first_and_rest (rw (requests_step s at n m e read) at h)

  module _ {r : Row} (row : r ≡ proposed q) where
    -- the first of the rows that are left is appended
    pub append-step : (book next whole : List ℕ) (number : ℕ) → next ≡ row_appended book number r
        → rows_appended book number (proposed_from s at n) ≡ whole
        → rows_appended next (number + 1) (proposed_from s (at + row_length) m) ≡ whole
    unfolding rows_appended
    append-step book next whole number w h = rw (w, row) (rw (requests_step s at n m e read) at h)

    -- what the first of them adds is added to the sum
    pub sum_step : (f : Row → ℕ) (sum share more whole : ℕ) → more ≡ sum + share → share ≡ f r
        → sum + total f (proposed_from s at n) ≡ whole
        → more + total f (proposed_from s (at + row_length) m) ≡ whole
    unfolding total
    sum_step f sum share more whole added here h =
        let split : sum + (f (proposed q) + total f (proposed_from s (at + row_length) m)) ≡ whole = rw (requests_step s at n m e read) at h in
        let same : share ≡ f (proposed q) = rw row at here in
        omega arith

-- none is left
module _ (s : List ℕ) (at n : ℕ) (none_left : n ≤ 0) where
  pub append_done : (book whole : List ℕ) (number : ℕ) → rows_appended book number (proposed_from s at n) ≡ whole → book ≡ whole
  unfolding rows_appended
  append_done book whole number h = rw (requests_done s at n none_left) at h

  pub sum_done : (f : Row → ℕ) (sum whole : ℕ) → sum + total f (proposed_from s at n) ≡ whole → sum ≡ whole
  unfolding total
  sum_done f sum whole h =
      let w : sum + 0 ≡ whole = rw (requests_done s at n none_left) at h in omega arith
