-- The search for a broken margin (document 01, "Registration"): what it is asked.
use Rattle.std.specs.Prelude.{ℕ, ◌≤◌}
use Rattle.rules.specs.declared.Row.{Row}
use Rattle.rules.specs.Limits.{most_energy}
use Rattle.rules.specs.Books.{Book, periods}
use Rattle.book.specs.Members.{IsAccount}

-- an account of the book, and a trade whose hours are the book's and whose quantity is in range
pub record AccountTrade (b : Book) (account : ℕ) (trade : Row) : Type 0 where
  pub account_known : IsAccount b account
  pub quantity_high : trade.quantity.0 ≤ most_energy
  pub first_low : 1 ≤ trade.first
  pub in_order : trade.first ≤ trade.last
  pub last_high : trade.last ≤ periods b.setup
