-- The entries before that of the operator are the exposures of the operators before it.
use Prim.Native.Nat.{◌+◌, ◌≤◌}
use mathlib.Core.Path.{◌≡◌}
use Rattle.rules.specs.Limits.{most_operators}
use Rattle.rules.specs.Books.{operator_count}
use Rattle.rules.specs.Registration.{exposure}
use Rattle.image.specs.Valid.{book_in}
use Rattle.book.proofs.WorthParts.{Listed}
use Rattle.asks.specs.Standing.{exposures_size}
use Rattle.asks.proofs.exposures.fill_exposures.Given as goal

abbrev pub invariant-loop-number : goal.invariant-loop-number
invariant-loop-number l =
    let b = book_in l.book in
    (l.number-end ≡ operator_count b.setup)
    × (l.number-end ≤ most_operators)
    × (1 ≤ l.number)
    × (l.number ≤ l.number-end + 1)
    × Listed (exposure b.setup b.part.rows) exposures_size l.exposures l.number
