-- The other hours break no margin, so that the search over all hours is that over the row's, and then over those that are left.
use Prim.Native.Nat.{◌+◌, ◌-◌, ◌≤◌}
use mathlib.Core.Path.{◌≡◌}
use mathlib.Core.List.{[], ◌∷◌}
use Rattle.rules.specs.Basics.{find, counting}
use Rattle.rules.specs.Limits.{most_hours}
use Rattle.rules.specs.Registration.{broken_by}
use Rattle.image.specs.Valid.{book_in}
use Rattle.registration.proofs.MarginLaws.{breaks_with}
use Rattle.asks.proofs.standing.keeps_margins_with.Given as goal

abbrev pub invariant-loop-hour : goal.invariant-loop-hour
invariant-loop-hour l =
    let b = book_in l.book in
    (l.row.first ≤ l.hour)
    × (l.hour-end ≡ l.row.last)
    × (l.hour ≤ l.hour-end + 1)
    × (l.row.last ≤ most_hours)
    × (broken_by b.setup b.part.rows (l.row ∷ []) l.row.proposer
    ≡ find (breaks_with b.setup b.part.rows (l.row ∷ []) l.row.proposer) (counting (l.row.last + 1 - l.hour) l.hour))
