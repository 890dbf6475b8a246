-- The parties of a row that a table has room for are accounts of the table.
use Prim.Native.Nat.{ℕ, ◌≤◌}
use native.Mathlib.Omega.{arith}
use lib.Dec.{eqb}
use Rattle.rules.specs.declared.Row.{Row}
use Rattle.rules.specs.Limits.{most_accounts}
use Rattle.rules.specs.Registration.{buyer, seller}
use Rattle.rules.proofs.Rows.Balanced.{picked_in}
use Rattle.image.specs.Tables.{InTable, Tabled}

pub buyer_in : {top : ℕ} (r : Row) → Tabled top r → (1 ≤ buyer r) × (buyer r ≤ most_accounts)
buyer_in r t = picked_in most_accounts (eqb r.side 1) _ _ (t.counterparty_low, t.counterparty_high) (t.proposer_low, t.proposer_high)

pub seller_in : {top : ℕ} (r : Row) → Tabled top r → (1 ≤ seller r) × (seller r ≤ most_accounts)
seller_in r t = picked_in most_accounts (eqb r.side 1) _ _ (t.proposer_low, t.proposer_high) (t.counterparty_low, t.counterparty_high)

-- the row's first hour is one that a book can have, of any account
pub first_hour_lem : {top : ℕ} (r : Row) (a : ℕ) → Tabled top r → (1 ≤ a) × (a ≤ most_accounts) → InTable top a r.first
first_hour_lem r a t i = record { account_low = i.0; account_high = i.1; hour_low = t.first_low; hour_high = omega (arith, t) }
