-- The first account that breaks a margin decides; where none was found, all keep them if those that are left do.
use Prim.Native.Nat.{◌+◌, ◌-◌, ◌≤◌}
use mathlib.Core.Path.{◌≡◌}
use Rattle.rules.specs.Basics.{every, counting}
use Rattle.rules.specs.Opening.{counts_in, setup_of}
use Rattle.image.specs.Valid.{account_keeps, margins_kept}
use Rattle.tables.specs.Sums.{ForRowsSummedIn}
use Rattle.tables.proofs.margins.margins_kept.Given as goal

abbrev pub invariant-loop-number : goal.invariant-loop-number
invariant-loop-number l =
    (l.number-end ≡ (counts_in l.book).accounts)
    × (1 ≤ l.number)
    × (l.number ≤ l.number-end + 1)
    × ForRowsSummedIn l.top l.table (λ rows.
    margins_kept (setup_of l.book) rows ≡ every (account_keeps (setup_of l.book) rows) (counting ((counts_in l.book).accounts + 1 - l.number) l.number))
