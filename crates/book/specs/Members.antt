-- The numbers that a book has: of its accounts, operators, hours and rows, each counted from 1; and the row of a number.
use Rattle.std.specs.Prelude.{ℕ, ◌≤◌, length}
use Rattle.rules.specs.declared.Row.{Row}
use Rattle.rules.specs.Basics.{nth}
use Rattle.rules.specs.Books.{Book, no_row, operator_count, account_count, periods}

-- n is the number of one of its accounts
abbrev pub IsAccount : Book → ℕ → Type 0
IsAccount b n = (1 ≤ n) × (n ≤ account_count b.setup)

-- n is the number of one of its operators
abbrev pub IsOperator : Book → ℕ → Type 0
IsOperator b n = (1 ≤ n) × (n ≤ operator_count b.setup)

-- h is one of the hours of its day
abbrev pub IsHour : Book → ℕ → Type 0
IsHour b h = (1 ≤ h) × (h ≤ periods b.setup)

-- n is the number of one of its rows
abbrev pub IsRow : Book → ℕ → Type 0
IsRow b n = (1 ≤ n) × (n ≤ length b.part.rows)

-- its row of that number
abbrev pub numbered_row : Book → ℕ → Row
numbered_row b n = nth b.part.rows n no_row
