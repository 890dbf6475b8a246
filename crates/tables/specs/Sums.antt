-- The sums of all account hours in one table of four lanes: bought, sold, pending sales, pending purchases, by account and then hour.
-- `top` is the most periods that a day can have, 25 hours today.
use Rattle.std.specs.Prelude.{ℕ, zero, suc, ◌+◌, ◌-◌, ◌*◌, ◌%◌, ◌^◌, ◌≤◌, ◌<◌, ◌≡◌, List, [], ◌∷◌, Bool, length, get_or, eqb, if◌then◌else◌}
use Rattle.wire.specs.Numbers.{number_at}
use Rattle.rules.specs.declared.Row.{Row}
use Rattle.rules.specs.Basics.{total, every, up_to, Each}
use Rattle.rules.specs.Limits.{most_accounts, most_price, most_rows}
use Rattle.rules.specs.Books.{Setup, estimate_at, operator_of, periods}
use Rattle.rules.specs.Registration.{bought, sold, pending_sales, pending_purchases, account_hour, exposed_amount}
use Rattle.rules.specs.Opening.{estimates_in}
use Rattle.image.specs.Tables.{cell_of, place_of, InTable, Tabled, Room, Raised, table_size}
use Rattle.image.specs.Layout.{most_periods, account_width, net_width, row_width}
use Rattle.image.specs.Cells.{rows_from}

-- ---- what a table is

-- a table with a cell for each sum of a day of at most `top` periods
pub record SumTable (top : ℕ) (table : List ℕ) : Type 0 where
  pub whole : table_size top ≤ length table
  pub top_high : top ≤ most_periods

-- a table of no rows
pub record NoSums (top : ℕ) (table : List ℕ) : Type 0 where
  pub whole : table_size top ≤ length table
  pub zeros : (k : ℕ) → get_or table k 0 ≡ 0

-- the table holds the sums of these rows, and each fits its 32 bits
pub record SumsOf (top : ℕ) (rows : List Row) (table : List ℕ) : Type 0 where
  pub whole : table_size top ≤ length table
  pub small : (k : ℕ) → get_or table k 0 < 2 ^ 32
  pub bought_at : (a h : ℕ) → InTable top a h → get_or table (cell_of top 0 a h) 0 ≡ bought rows a h
  pub sold_at : (a h : ℕ) → InTable top a h → get_or table (cell_of top 1 a h) 0 ≡ sold rows a h
  pub sales_at : (a h : ℕ) → InTable top a h → get_or table (cell_of top 2 a h) 0 ≡ pending_sales rows a h
  pub purchases_at : (a h : ℕ) → InTable top a h → get_or table (cell_of top 3 a h) 0 ≡ pending_purchases rows a h

-- P is true of any rows whose sums the table holds
abbrev pub ForRowsSummedIn : ℕ → List ℕ → (List Row → Type 0) → Type 0
ForRowsSummedIn top table P = (rows : List Row) → SumsOf top rows table → P rows

-- ---- how the table is filled

-- the table has cells for an account of that number
abbrev pub AccountInTable : ℕ → Type 0
AccountInTable account = (1 ≤ account) × (account ≤ most_accounts)

-- the table has cells for the row, and each of them has room for its quantity
pub record RoomForRow (top : ℕ) (table : List ℕ) (r : Row) : Type 0 where
  pub tabled : Tabled top r
  pub room : Room table 0 r.quantity.0

-- the bytes have n rows from `at` on, no more than a book has, and the table has cells for each
pub record RowsTabled (top : ℕ) (s : List ℕ) (at n : ℕ) : Type 0 where
  pub whole : at + row_width * n ≤ length s
  pub few : n ≤ most_rows
  pub tabled : Each (Tabled top) (rows_from s at n)

-- what a lane is the sum of
unfoldable pub lane_sum : ℕ → List Row → ℕ → ℕ → ℕ
lane_sum zero = bought
lane_sum (suc zero) = sold
lane_sum (suc (suc zero)) = pending_sales
lane_sum (suc (suc (suc lane))) = pending_purchases

-- the row's quantity is added to the account's cells of its hours in a lane, and to no other cell
abbrev pub HoursRaised : ℕ → ℕ → ℕ → Row → List ℕ → List ℕ → Type 0
HoursRaised top lane account r before after =
    Raised before after (cell_of top lane account r.first) (r.last - r.first + 1) r.quantity.0

-- one row more: each account hour of each lane has its share, and no cell grows by more than the row's quantity
pub record RowAdded (top : ℕ) (before after : List ℕ) (r : Row) : Type 0 where
  pub share : (lane a h : ℕ) → lane ≤ 3 → InTable top a h
      → get_or after (cell_of top lane a h) 0 ≡ get_or before (cell_of top lane a h) 0 + lane_sum lane (r ∷ []) a h
  pub grown : (k : ℕ) → get_or after k 0 ≤ get_or before k 0 + r.quantity.0

-- ---- what is stored of the sums

-- the bytes have the net positions of all accounts from `nets` on
abbrev pub NetsInside : ℕ → List ℕ → ℕ → Type 0
NetsInside top s nets = nets + most_accounts * account_width top ≤ length s

-- the 4 bytes of each net position are bought less sold in two's complement: with what is sold added they come to what is bought
unfoldable pub net_stored : ℕ → List ℕ → ℕ → List ℕ → ℕ → ℕ → Bool
net_stored top s at table a h =
    eqb
    ((number_at s (at + net_width * place_of top a h) net_width + get_or table (cell_of top 1 a h) 0) % 2 ^ 32)
    (get_or table (cell_of top 0 a h) 0 % 2 ^ 32)

-- so are those of all accounts and hours
unfoldable pub nets_stored : ℕ → List ℕ → ℕ → List ℕ → Bool
nets_stored top s at table = every (λ a. every (net_stored top s at table a) (up_to top)) (up_to most_accounts)

-- ---- exposure, account by account

-- every estimated price of the set-up is in range
abbrev pub EstimatesInRange : List ℕ → Type 0
EstimatesInRange s = Each (λ p. p.0 ≤ most_price) (estimates_in s)

-- no exposure of an hour is higher: two amounts of energy of 32 bits at the highest price
abbrev pub most_hour_exposure : ℕ
most_hour_exposure = most_price * 2 ^ 33

-- no exposure of an account is higher: that in each hour
abbrev pub most_account_exposure : ℕ
most_account_exposure = most_periods * most_hour_exposure

-- the exposure of an account over all hours, at the estimated prices
unfoldable pub account_exposure : Setup → List Row → ℕ → ℕ
account_exposure u rows a = total (λ h. exposed_amount (estimate_at u h) (account_hour rows a h)) (up_to (periods u))

-- what an account adds to an operator's exposure: nothing where it is another's
unfoldable pub exposure_share : Setup → List Row → ℕ → ℕ → ℕ
exposure_share u rows o a = if eqb (operator_of u a) o then account_exposure u rows a else 0
