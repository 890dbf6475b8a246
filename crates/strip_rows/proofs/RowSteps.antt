-- The rows of registers from a place on, and the requests that they say: the first stands there, and the others stand one row further.
use Prim.Native.Nat.{ℕ, zero, suc, ◌+◌, ◌-◌, ◌*◌, ◌≤◌}
use mathlib.Core.Path.{◌≡◌, sym, ap, ◌∙◌}
use mathlib.Core.List.{List, [], ◌∷◌}
use native.Mathlib.Omega.{arith}
use lib.ListN.{length, take, drop}
use Rattle.rules.specs.declared.Request.{Request}
use Rattle.rules.specs.Requests.{kind_number, register, row_length, request_of, first_of}
use Rattle.rules.specs.Strips.{IsRegister}
use Rattle.strip_rows.specs.Rows.{row_of, requests_from, RegisterRows}
use Rattle.strip_rows.proofs.RowsFrom.{rows_done, rows_step, rows_split, row_length_lem, part_row}

-- the row that stands at `at`, as the code lends it
abbrev pub row_at : List ℕ → ℕ → List ℕ
row_at s at = take (at + row_length - at) (drop at s)

-- the row of that number stands there
pub row_numbered : (s : List ℕ) (at i : ℕ) → row_of s at i ≡ row_at s (at + row_length * i)
row_numbered s at i = sym (part_row s (at + row_length * i))

-- the request that a register's row says is a register
pub register_kind : {q : Request} (row : List ℕ) → IsRegister row → q ≡ request_of row → q.kind ≡ kind_number register
unfolding request_of
register_kind row h r = rw r h.of_kind

pub requests_done : (s : List ℕ) (at n : ℕ) → n ≤ 0 → requests_from s at n ≡ []
requests_done s at n h = rw (rows_done s at n h)

module _ (s : List ℕ) (at n m : ℕ) (e : n ≡ m + 1) where
  module _ (h : RegisterRows s at n) where
    -- the first row is a register's
    pub first_register : (length (row_at s at) ≡ row_length) × IsRegister (row_at s at)
    first_register = rw (part_row s at) (row_length_lem s at (omega (arith, h.inside)), (rows_split s at n m e h.registers).0)

    -- and so are the others
    pub other_registers : RegisterRows s (at + row_length) m
    other_registers = record { inside = omega (arith, h.inside); registers = (rows_split s at n m e h.registers).1 }

  -- the request that the first row says, and those of the others
  pub requests_step : {q : Request} → q ≡ request_of (row_at s at) → requests_from s at n ≡ q ∷ requests_from s (at + row_length) m
  requests_step r = rw (r, part_row s at, rows_step s at n m e)

  -- it is the first of them
  pub first_request : {q : Request} → q ≡ request_of (row_at s at) → q ≡ first_of (requests_from s at n)
  first_request r = rw (requests_step r)

  -- and its account is the proposer
  pub first_proposer : {q : Request} → q ≡ request_of (row_at s at) → q.account ≡ (first_of (requests_from s at n)).account
  first_proposer r = ap (λ (q : Request). q.account) (first_request r)

-- each row of registers is a register's
pub any_register : (s : List ℕ) (at n i : ℕ) → i + 1 ≤ n → RegisterRows s at n
    → (length (row_at s (at + row_length * i)) ≡ row_length) × IsRegister (row_at s (at + row_length * i))
any_register s at n zero low h = let e : at + row_length * 0 ≡ at = omega arith in rw e (first_register s at n (n - 1) (omega arith) h)
any_register s at n (suc i) low h =
    let e : at + row_length * suc i ≡ at + row_length + row_length * i = omega arith in
    rw e (any_register s (at + row_length) (n - 1) i (omega arith) (other_registers s at n (n - 1) (omega arith) h))

-- the request of that number, and those behind it
pub requests_next : (s : List ℕ) (at i n m : ℕ) {q : Request} → n ≡ m + 1 → q ≡ request_of (row_of s at i)
    → requests_from s (at + row_length * i) n ≡ q ∷ requests_from s (at + row_length * (i + 1)) m
requests_next s at i n m e r =
    let next : at + row_length * i + row_length ≡ at + row_length * (i + 1) = omega arith in
    rw next at (requests_step s (at + row_length * i) n m e (r ∙ ap request_of (row_numbered s at i)))

-- registers behind a register
pub registers_next : (s : List ℕ) (at i n m : ℕ) → n ≡ m + 1 → RegisterRows s (at + row_length * i) n → RegisterRows s (at + row_length * (i + 1)) m
registers_next s at i n m e h =
    let next : at + row_length * i + row_length ≡ at + row_length * (i + 1) = omega arith in
    rw next at (other_registers s (at + row_length * i) n m e h)
