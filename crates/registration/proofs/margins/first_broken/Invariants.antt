-- The other hours break no margin, so that the search over all hours is that over the trade's, and then over those that are left.
use Rattle.std.proofs.Common.{◌≡◌, ◌+◌, ◌-◌, ◌≤◌, [], ◌∷◌}
use Rattle.rules.specs.Basics.{find, counting}
use Rattle.rules.specs.Limits.{most_hours}
use Rattle.rules.specs.Registration.{broken_by}
use Rattle.image.specs.Valid.{book_in}
use Rattle.registration.proofs.MarginLaws.{breaks_with}
use Rattle.registration.proofs.margins.first_broken.Given as goal

abbrev pub invariant-loop-hour : goal.invariant-loop-hour
invariant-loop-hour l =
    let b = book_in l.book in
    (l.trade.first ≤ l.hour)
    × (l.hour ≤ l.trade.last + 1)
    × (l.trade.last ≤ most_hours)
    × (broken_by b.setup b.part.rows (l.trade ∷ []) l.number
    ≡ find (breaks_with b.setup b.part.rows (l.trade ∷ []) l.number) (counting (l.trade.last + 1 - l.hour) l.hour))

abbrev pub decreases-loop-hour : goal.decreases-loop-hour
decreases-loop-hour l = l.trade.last + 1 - l.hour
