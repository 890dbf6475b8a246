-- The sum so far, and what the hours that are left add, make what all hours add.
use Prim.Native.Nat.{◌+◌, ◌-◌, ◌*◌, ◌≤◌}
use mathlib.Core.Path.{◌≡◌}
use Rattle.rules.specs.Basics.{total, counting}
use Rattle.rules.specs.Limits.{most_price, most_hours}
use Rattle.rules.specs.Books.{periods}
use Rattle.image.specs.Valid.{book_in}
use Rattle.book.specs.Worth.{nets_with, most_short}
use Rattle.book.proofs.ShortLaws.{hour_short}
use Rattle.book.proofs.worth.account_short.Given as goal

abbrev pub invariant-loop-hour : goal.invariant-loop-hour
invariant-loop-hour l =
    let b = book_in l.book in
    (l.hour-end ≡ periods b.setup)
    × (l.hour-end ≤ most_hours)
    × (1 ≤ l.hour)
    × (l.hour ≤ l.hour-end + 1)
    × (l.sum.0 ≤ (l.hour - 1) * (most_short * most_price))
    × (l.sum.0 + total (hour_short b.setup (nets_with b l.added) l.account) (counting (periods b.setup + 1 - l.hour) l.hour)
    ≡ total (hour_short b.setup (nets_with b l.added) l.account) (counting (periods b.setup) 1))
