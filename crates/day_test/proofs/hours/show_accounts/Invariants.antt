-- The number stays among the accounts.
use Rattle.std.proofs.Common.{◌+◌, ◌≤◌, ◌≡◌}
use Rattle.rules.specs.Books.{account_count}
use Rattle.valuation.specs.Tables.{setup_in}
use Rattle.day_test.proofs.hours.show_accounts.Given as goal

abbrev pub invariant-loop-number : goal.invariant-loop-number
invariant-loop-number g l =
    (l.number-end ≡ account_count (setup_in l.fn.book)) × (1 ≤ l.number) × (l.number ≤ account_count (setup_in l.fn.book) + 1)
