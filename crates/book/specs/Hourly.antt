-- The hourly exposure of an operator (document 02, note 5) in two parts, in kWh: what of the net positions lies below zero, account by
-- account, and the pending sales, row by row.
use Rattle.std.specs.Prelude.{ℕ, ◌*◌, List, eqb, if◌then◌else◌}
use Rattle.rules.specs.declared.Row.{Row}
use Rattle.rules.specs.Limits.{most_energy, most_accounts, most_rows}
use Rattle.rules.specs.Books.{Setup, operator_of, selling_side}
use Rattle.rules.specs.Registration.{counted, pending_of, net_of, of_operator}
use Rattle.book.specs.Worth.{short_of, most_short}

-- what of an account's net position in the hour lies below zero; nothing where its operator is another
unfoldable pub account_short_in_hour : Setup → List Row → ℕ → ℕ → ℕ → ℕ
account_short_in_hour u rows o h a = if eqb (operator_of u a) o then short_of (net_of rows a h) else 0

-- the same of all accounts of an operator
unfoldable pub operator_short_in_hour : Setup → List Row → ℕ → ℕ → ℕ
operator_short_in_hour u rows o h = of_operator u (λ a. short_of (net_of rows a h)) o

-- the quantity of a row that is a pending sale of the hour; nothing where it is none, or its proposer's operator is another
unfoldable pub sale_in_hour : Setup → ℕ → ℕ → Row → ℕ
sale_in_hour u o h r = if eqb (operator_of u r.proposer) o then counted (pending_of selling_side r.proposer h) r else 0

-- an operator has no more than this below zero in an hour
abbrev pub most_operator_short : ℕ
most_operator_short = most_accounts * most_short

-- and all rows have no more than this as pending sales of it
abbrev pub most_sales : ℕ
most_sales = most_rows * most_energy
