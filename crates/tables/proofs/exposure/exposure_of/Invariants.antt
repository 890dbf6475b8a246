-- After each account, the sum so far and what the accounts that are left add together are the operator's exposure.
use Prim.Native.Nat.{◌+◌, ◌-◌, ◌*◌, ◌≤◌}
use mathlib.Core.Path.{◌≡◌}
use Rattle.rules.specs.Basics.{total, counting}
use Rattle.rules.specs.Opening.{counts_in, setup_of}
use Rattle.tables.specs.Sums.{ForRowsSummedIn, exposure_share, most_account_exposure}
use Rattle.tables.proofs.exposure.exposure_of.Given as goal

abbrev pub invariant-loop-number : goal.invariant-loop-number
invariant-loop-number l =
    (l.number-end ≡ (counts_in l.book).accounts)
    × (1 ≤ l.number)
    × (l.number ≤ l.number-end + 1)
    × (l.sum.0 ≤ (l.number - 1) * most_account_exposure)
    × ForRowsSummedIn l.top l.table (λ rows.
    l.sum.0 + total (exposure_share (setup_of l.book) rows l.operator) (counting ((counts_in l.book).accounts + 1 - l.number) l.number)
    ≡ total (exposure_share (setup_of l.book) rows l.operator) (counting (counts_in l.book).accounts 1))
