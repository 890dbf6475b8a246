-- The hour stays within the day.
use Rattle.std.proofs.Common.{◌+◌, ◌≤◌, ◌≡◌}
use Rattle.rules.specs.Books.{periods}
use Rattle.valuation.specs.Tables.{setup_in}
use Rattle.day_test.proofs.hours.show_account.Given as goal

abbrev pub invariant-loop-hour : goal.invariant-loop-hour
invariant-loop-hour g l =
    (l.hour-end ≡ periods (setup_in l.fn.book)) × (1 ≤ l.hour) × (l.hour ≤ periods (setup_in l.fn.book) + 1)
