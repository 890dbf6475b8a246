-- After each hour, the sum so far and the exposure of the hours that are left together are that of all hours.
use Prim.Native.Nat.{◌+◌, ◌-◌, ◌*◌, ◌≤◌}
use mathlib.Core.Path.{◌≡◌}
use Rattle.rules.specs.Basics.{total, counting}
use Rattle.rules.specs.Opening.{counts_in}
use Rattle.tables.specs.Sums.{ForRowsSummedIn, most_hour_exposure}
use Rattle.tables.proofs.ExposureLaws.{hour_exposure}
use Rattle.tables.proofs.exposure.account_exposure.Given as goal

abbrev pub invariant-loop-hour : goal.invariant-loop-hour
invariant-loop-hour l =
    (l.hour-end ≡ (counts_in l.book).hours)
    × (1 ≤ l.hour)
    × (l.hour ≤ l.hour-end + 1)
    × (l.sum.0 ≤ (l.hour - 1) * most_hour_exposure)
    × ForRowsSummedIn l.top l.table (λ rows.
    l.sum.0 + total (hour_exposure l.book rows l.number) (counting ((counts_in l.book).hours + 1 - l.hour) l.hour)
    ≡ total (hour_exposure l.book rows l.number) (counting (counts_in l.book).hours 1))
