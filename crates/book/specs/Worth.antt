-- Exposure in two parts (document 01, "Registration"): what of the net positions lies below zero, and the pending sales, row by row.
use Rattle.std.specs.Prelude.{ℕ, ◌+◌, ◌-◌, ◌*◌, ◌≤◌, ◌≡◌, List, [], ◌∷◌, true, ◌&&◌, length, get_or, eqb, if◌then◌else◌, Option, None, Some}
use Rattle.units.specs.Units.{kwh}
use Rattle.rules.specs.declared.Row.{Row}
use Rattle.rules.specs.declared.Net.{Net}
use Rattle.rules.specs.Basics.{total, up_to, Each}
use Rattle.rules.specs.Limits.{most_energy, most_price, most_hours, most_accounts}
use Rattle.rules.specs.Books.{Setup, Book, estimate_at, operator_of, account_count, periods, selling_side}
use Rattle.rules.specs.Registration.{pending, includes_hour, account_hour, after_trade, after_trades, of_operator}
use Rattle.image.specs.Valid.{is_sound, book_in}

-- ---- the accounts' operators, and the rows that are to be added

-- how many operators of accounts there are: one for each account that a book can have, and one for no account
abbrev pub operators_size : ℕ
operators_size = most_accounts + 1

-- entry a of the list is the operator of account a
pub record AccountOperators (u : Setup) (operators : List ℕ) : Type 0 where
  pub whole : length operators ≡ operators_size
  pub operator : (a : ℕ) → 1 ≤ a → a ≤ account_count u → get_or operators a 0 ≡ operator_of u a

-- bytes that are a sound book, and the operators of its accounts
pub record OperatorInputs (s operators : List ℕ) : Type 0 where
  pub is_sound : is_sound s ≡ true
  pub account_operators : AccountOperators (book_in s).setup operators

-- what is to be added, as rows
abbrev pub added_rows : Option Row → List Row
added_rows None = []
added_rows (Some r) = r ∷ []

-- each row that is to be added has a quantity in range
abbrev pub QuantityInRange : Option Row → Type 0
QuantityInRange added = Each (λ r. r.quantity.0 ≤ most_energy) (added_rows added)

-- ---- net positions below zero

-- what of a net position lies below zero, in kWh
abbrev pub short_of : Net → ℕ
short_of net = net.sold.0 - net.bought.0

-- what of an account's net positions lies below zero, at estimated prices
unfoldable pub account_short : Setup → (ℕ → ℕ → Net) → ℕ → ℕ
account_short u net a = total (λ h. (estimate_at u h).0 * short_of (net a h)) (up_to (periods u))

-- the same of all accounts of an operator
unfoldable pub short_worth : Setup → (ℕ → ℕ → Net) → ℕ → ℕ
short_worth u net o = of_operator u (account_short u net) o

-- what one account adds to it: nothing where its operator is another
unfoldable pub short_share : Setup → (ℕ → ℕ → Net) → ℕ → ℕ → ℕ
short_share u net o a = if eqb (operator_of u a) o then account_short u net a else 0

-- the net positions after the rows that are to be added
abbrev pub net_with : List Row → List Row → ℕ → ℕ → Net
net_with rows added a h = (after_trades a h (account_hour rows a h) added).net

-- the same of a book
abbrev pub nets_with : Book → Option Row → ℕ → ℕ → Net
nets_with b added = net_with b.part.rows (added_rows added)

-- what of a net position lies below zero after the trade
unfoldable pub short_after : Net → Row → ℕ → ℕ → ℕ
short_after net trade a h = short_of (after_trade a h (record { net = net; sales = kwh 0; purchases = kwh 0 }) trade).net

-- the most that an account can have below zero in one hour, in kWh: its net position and one trade more
abbrev pub most_short : ℕ
most_short = 2 * most_energy

-- the same in all hours, at the highest price
abbrev pub most_short_worth : ℕ
most_short_worth = most_hours * (most_short * most_price)

-- ---- pending sales

-- the estimated prices of a row's hours together
unfoldable pub span_price : Setup → Row → ℕ
span_price u r = total (λ h. if includes_hour h r then (estimate_at u h).0 else 0) (up_to (periods u))

-- how many sums there are: one for each hour that a day can have, and one for no hour
abbrev pub sums_size : ℕ
sums_size = most_hours + 1

-- entry k of the list is the sum of the estimated prices of the hours 1 to k
pub record PriceSums (u : Setup) (sums : List ℕ) : Type 0 where
  pub whole : length sums ≡ sums_size
  pub sum : (k : ℕ) → k ≤ periods u → get_or sums k 0 ≡ total (λ h. (estimate_at u h).0) (up_to k)

-- the most that the prices of a day sum to
abbrev pub most_price_sum : ℕ
most_price_sum = most_hours * most_price

-- a quantity in range over hours of a day, and sums of prices that are in range and do not fall over these hours
pub record PricedSpan (sums : List ℕ) (first last quantity : ℕ) : Type 0 where
  pub whole : length sums ≡ sums_size
  pub first_low : 1 ≤ first
  pub in_order : first ≤ last
  pub last_high : last ≤ most_hours
  pub sums_in_order : get_or sums (first - 1) 0 ≤ get_or sums last 0
  pub sums_high : get_or sums last 0 ≤ most_price_sum
  pub quantity_high : quantity ≤ most_energy

-- what a row adds to the operator's exposure as a pending sale of one of its accounts; nothing where it is none
unfoldable pub sale_worth : Setup → ℕ → Row → ℕ
sale_worth u o r = if pending r && eqb r.side selling_side && eqb (operator_of u r.proposer) o then r.quantity.0 * span_price u r else 0

-- the most that one row adds as a pending sale
abbrev pub most_sale_worth : ℕ
most_sale_worth = most_energy * most_price_sum

-- what the pending sales are worked out from: bytes that are a book, the sums of its estimated prices, and the operators of its accounts
pub record SaleInputs (s sums operators : List ℕ) : Type 0 where
  pub is_sound : is_sound s ≡ true
  pub price_sums : PriceSums (book_in s).setup sums
  pub account_operators : AccountOperators (book_in s).setup operators

-- a row that can be added: its quantity is in range and, where it is pending, its proposer and its hours are those of the set-up
pub record TradeInRange (u : Setup) (trade : Row) : Type 0 where
  pub quantity_high : trade.quantity.0 ≤ most_energy
  pub proposer_known : pending trade ≡ true → (1 ≤ trade.proposer) × (trade.proposer ≤ account_count u)
  pub hours_known : pending trade ≡ true → (1 ≤ trade.first) × (trade.first ≤ trade.last) × (trade.last ≤ periods u)
