-- The entries before that of the account are the operators of the accounts before it.
use Prim.Native.Nat.{◌+◌, ◌≤◌}
use mathlib.Core.Path.{◌≡◌}
use Rattle.rules.specs.Limits.{most_accounts}
use Rattle.rules.specs.Books.{account_count, operator_of}
use Rattle.image.specs.Valid.{book_in}
use Rattle.book.specs.Worth.{operators_size}
use Rattle.book.proofs.WorthParts.{Listed}
use Rattle.book.proofs.worth.fill_operators.Given as goal

abbrev pub invariant-loop-number : goal.invariant-loop-number
invariant-loop-number l =
    let u = (book_in l.book).setup in
    (l.number-end ≡ account_count u) × (l.number-end ≤ most_accounts) × (1 ≤ l.number) × (l.number ≤ l.number-end + 1) × Listed (operator_of u) operators_size l.operators l.number
