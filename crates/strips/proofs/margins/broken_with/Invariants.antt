-- The search over all hours is that over the hours that are left, whatever pending rows the table has beside those of the book.
use Prim.Native.Nat.{◌+◌, ◌-◌, ◌≤◌}
use mathlib.Core.Path.{◌≡◌}
use mathlib.Core.Bool.{true}
use mathlib.Core.List.{List, ◌++◌}
use Rattle.rules.specs.declared.Row.{Row}
use Rattle.rules.specs.Basics.{find, counting, Each}
use Rattle.rules.specs.Limits.{most_hours}
use Rattle.rules.specs.Books.{periods}
use Rattle.rules.specs.Registration.{pending, broken_by}
use Rattle.image.specs.Valid.{book_in}
use Rattle.book.specs.Waits.{WaitsOf}
use Rattle.registration.proofs.MarginLaws.{breaks_with}
use Rattle.strips.proofs.margins.broken_with.Given as goal

abbrev pub invariant-loop-hour : goal.invariant-loop-hour
invariant-loop-hour l =
    let b = book_in l.book in
    (1 ≤ l.hour)
    × (l.hour ≤ l.n.hours + 1)
    × (l.n.hours ≡ periods b.setup)
    × (l.n.hours ≤ most_hours)
    × ((added : List Row) → Each (λ r. pending r ≡ true) added → WaitsOf (b.part.rows ++ added) l.number l.waits
    → broken_by b.setup b.part.rows added l.number
    ≡ find (breaks_with b.setup b.part.rows added l.number) (counting (l.n.hours + 1 - l.hour) l.hour))

abbrev pub decreases-loop-hour : goal.decreases-loop-hour
decreases-loop-hour l = l.n.hours + 1 - l.hour
