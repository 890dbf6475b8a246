-- The first operator that is not covered decides; where none was found, all are covered if those that are left are.
use Prim.Native.Nat.{◌+◌, ◌-◌, ◌≤◌}
use mathlib.Core.Path.{◌≡◌}
use Rattle.rules.specs.Basics.{every, counting}
use Rattle.rules.specs.Opening.{counts_in, setup_of}
use Rattle.rules.specs.Registration.{covered}
use Rattle.image.specs.Valid.{operators_covered}
use Rattle.tables.specs.Sums.{ForRowsSummedIn}
use Rattle.audit.specs.Validity.{part_with}
use Rattle.audit.proofs.part.operators_covered.Given as goal

abbrev pub invariant-loop-number : goal.invariant-loop-number
invariant-loop-number l =
    (l.number-end ≡ (counts_in l.book).operators)
    × (1 ≤ l.number)
    × (l.number ≤ l.number-end + 1)
    × ForRowsSummedIn l.top l.table (λ rows.
    operators_covered (setup_of l.book) (part_with l.book l.at rows)
    ≡ every (covered (setup_of l.book) (part_with l.book l.at rows)) (counting ((counts_in l.book).operators + 1 - l.number) l.number))
