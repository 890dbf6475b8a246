-- Tables by account hour: the cell of an account hour in a lane, what has room in a table, and a range of cells raised.
use Rattle.std.specs.Prelude.{ℕ, ◌+◌, ◌-◌, ◌*◌, ◌^◌, ◌≤◌, ◌<◌, ◌≡◌, List, get_or}
use Rattle.rules.specs.declared.Row.{Row}
use Rattle.rules.specs.Limits.{most_accounts, most_energy}
use Rattle.rules.specs.Opening.{counts_in}
use Rattle.setup.specs.Faults.{Whole}

-- the slots of a table, each of `top` cells: one for each account of each of its four lanes
abbrev pub slots : ℕ
slots = 4 * most_accounts

-- the cells of a table
abbrev pub table_size : ℕ → ℕ
table_size top = slots * top

-- the slot of an account in a lane: 0 bought, 1 sold, 2 pending sales, 3 pending purchases
abbrev pub slot_of : ℕ → ℕ → ℕ
slot_of lane a = most_accounts * lane + (a - 1)

-- the cell of an account hour in a lane
abbrev pub cell_of : ℕ → ℕ → ℕ → ℕ → ℕ
cell_of top lane a h = top * slot_of lane a + (h - 1)

-- the place of an account hour among those of all accounts
abbrev pub place_of : ℕ → ℕ → ℕ → ℕ
place_of top a h = top * (a - 1) + (h - 1)

-- an account hour that a book can have
pub record InTable (top a h : ℕ) : Type 0 where
  pub account_low : 1 ≤ a
  pub account_high : a ≤ most_accounts
  pub hour_low : 1 ≤ h
  pub hour_high : h ≤ top

-- a number is that of a place or cell, and the other hours of its account lie in the table too: `size` is what all have
pub record Inside (top size place h k : ℕ) : Type 0 where
  pub is : k ≡ place
  pub fits : k + top < size * top + h

-- ---- what the table has room for

-- a row that the table has room for: its accounts, its hours and its quantity are in range
pub record Tabled (top : ℕ) (r : Row) : Type 0 where
  pub proposer_low : 1 ≤ r.proposer
  pub proposer_high : r.proposer ≤ most_accounts
  pub counterparty_low : 1 ≤ r.counterparty
  pub counterparty_high : r.counterparty ≤ most_accounts
  pub first_low : 1 ≤ r.first
  pub in_order : r.first ≤ r.last
  pub last_high : r.last ≤ top
  pub quantity_high : r.quantity.0 ≤ most_energy

-- a set-up in bytes whose accounts and hours the table has room for
pub record SetupTabled (top : ℕ) (s : List ℕ) : Type 0 where
  pub whole : Whole s
  pub accounts_high : (counts_in s).accounts ≤ most_accounts
  pub hours_high : (counts_in s).hours ≤ top

-- each cell from `at` on can grow by q and stays within its 32 bits
abbrev pub Room : List ℕ → ℕ → ℕ → Type 0
Room table at q = (k : ℕ) → at ≤ k → get_or table k 0 + q < 2 ^ 32

-- q is added to the n cells from `at` on, and to no other
pub record Raised (before after : List ℕ) (at n q : ℕ) : Type 0 where
  pub below : (k : ℕ) → k < at → get_or after k 0 ≡ get_or before k 0
  pub inside : (k : ℕ) → at ≤ k → k < at + n → get_or after k 0 ≡ get_or before k 0 + q
  pub above : (k : ℕ) → at + n ≤ k → get_or after k 0 ≡ get_or before k 0
