-- The entries before that of the hour are the sums of the prices up to them.
use Prim.Native.Nat.{◌+◌, ◌≤◌}
use mathlib.Core.Path.{◌≡◌}
use Rattle.rules.specs.Limits.{most_hours}
use Rattle.rules.specs.Books.{periods}
use Rattle.image.specs.Valid.{book_in}
use Rattle.book.proofs.WorthParts.{SummedTo}
use Rattle.book.proofs.worth.fill_prices.Given as goal

abbrev pub invariant-loop-hour : goal.invariant-loop-hour
invariant-loop-hour l =
    (l.hour-end ≡ periods (book_in l.book).setup) × (l.hour-end ≤ most_hours) × (1 ≤ l.hour) × (l.hour ≤ l.hour-end + 1) × SummedTo (book_in l.book).setup l.sums l.hour
