-- The pending rows of one account (document 01, "Registration") in a table: sums by hour, first of sales and then of purchases.
use Rattle.std.specs.Prelude.{ℕ, ◌+◌, ◌-◌, ◌*◌, ◌≤◌, ◌≡◌, List, [], ◌∷◌, length, get_or, replicate}
use Rattle.units.specs.Units.{kwh}
use Rattle.rules.specs.declared.Row.{Row}
use Rattle.rules.specs.declared.AccountHour.{AccountHour}
use Rattle.rules.specs.Limits.{most_hours, most_energy}
use Rattle.rules.specs.Books.{selling_side, buying_side}
use Rattle.rules.specs.Registration.{waiting, net_of, pending_sales, pending_purchases}
use Rattle.image.specs.Tables.{Room}
use Rattle.book.specs.Netted.{netted}

-- how many cells a table has: one for the sales of each hour, and one for its purchases
abbrev pub waits_size : ℕ
waits_size = 2 * most_hours

-- the cell of an hour: side 1 are sales, side 2 purchases
abbrev pub wait_cell : ℕ → ℕ → ℕ
wait_cell side h = most_hours * (side - 1) + (h - 1)

-- a side and an hour that a row can have
pub record Waits (side h : ℕ) : Type 0 where
  pub side_low : 1 ≤ side
  pub side_high : side ≤ 2
  pub hour_low : 1 ≤ h
  pub hour_high : h ≤ most_hours

-- each cell holds the account's pending sum among these rows, and none is above the greatest quantity times the number of rows
pub record WaitsOf (rows : List Row) (a : ℕ) (table : List ℕ) : Type 0 where
  pub whole : length table ≡ waits_size
  pub waits_at : (side h : ℕ) → Waits side h → get_or table (wait_cell side h) 0 ≡ waiting side rows a h
  pub bounded : (k : ℕ) → get_or table k 0 ≤ most_energy * length rows

-- ---- how the table is filled

-- the table has its cells, and in each there is room for that much more
abbrev pub RoomInWaits : List ℕ → ℕ → Type 0
RoomInWaits table more = (length table ≡ waits_size) × Room table 0 more

-- the table of no rows
unfoldable pub no_waits : List ℕ
no_waits = replicate waits_size 0

-- one row more: each cell has grown by what the row adds to the account's pending sum, and none by more than the greatest quantity
pub record WaitAdded (before after : List ℕ) (r : Row) (a : ℕ) : Type 0 where
  pub share : (side h : ℕ) → Waits side h → get_or after (wait_cell side h) 0 ≡ get_or before (wait_cell side h) 0 + waiting side (r ∷ []) a h
  pub grown : (k : ℕ) → get_or after k 0 ≤ get_or before k 0 + most_energy

-- ---- what is read off it

-- the net position of an account hour by itself, and the pending sums that the table has for the hour
abbrev pub tabled_hour : List Row → List ℕ → ℕ → ℕ → AccountHour
tabled_hour rows table a h =
    record {
      net = netted (net_of rows a h);
      sales = kwh (get_or table (wait_cell selling_side h) 0);
      purchases = kwh (get_or table (wait_cell buying_side h) 0);
    }

-- the account hour, with its net position by itself
abbrev pub netted_hour : List Row → ℕ → ℕ → AccountHour
netted_hour rows a h =
    record { net = netted (net_of rows a h); sales = kwh (pending_sales rows a h); purchases = kwh (pending_purchases rows a h) }
