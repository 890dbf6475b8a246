-- The first hour that breaks a margin decides; where none was found, all keep them if those that are left do.
use Prim.Native.Nat.{◌+◌, ◌-◌, ◌≤◌}
use mathlib.Core.Path.{◌≡◌}
use Rattle.rules.specs.Basics.{every, counting}
use Rattle.rules.specs.Opening.{counts_in, setup_of}
use Rattle.image.specs.Valid.{account_keeps}
use Rattle.tables.specs.Sums.{ForRowsSummedIn}
use Rattle.tables.proofs.MarginLaws.{hour_kept}
use Rattle.tables.proofs.margins.hours_kept.Given as goal

abbrev pub invariant-loop-hour : goal.invariant-loop-hour
invariant-loop-hour l =
    (l.hour-end ≡ (counts_in l.book).hours)
    × (1 ≤ l.hour)
    × (l.hour ≤ l.hour-end + 1)
    × ForRowsSummedIn l.top l.table (λ rows.
    account_keeps (setup_of l.book) rows l.number ≡ every (hour_kept l.book rows l.number) (counting ((counts_in l.book).hours + 1 - l.hour) l.hour))
