-- The sum so far, and what the accounts that are left add, make what all accounts of the operator add.
use Prim.Native.Nat.{◌+◌, ◌-◌, ◌*◌, ◌≤◌}
use mathlib.Core.Path.{◌≡◌}
use Rattle.rules.specs.Basics.{total, counting}
use Rattle.rules.specs.Limits.{most_accounts}
use Rattle.rules.specs.Books.{account_count}
use Rattle.image.specs.Valid.{book_in}
use Rattle.book.specs.Worth.{most_short}
use Rattle.book.specs.Hourly.{account_short_in_hour}
use Rattle.book.proofs.hourly.short_of_operator.Given as goal

abbrev pub invariant-loop-account : goal.invariant-loop-account
invariant-loop-account l =
    let b = book_in l.book in
    (l.account-end ≡ account_count b.setup)
    × (l.account-end ≤ most_accounts)
    × (1 ≤ l.account)
    × (l.account ≤ l.account-end + 1)
    × (l.sum.0 ≤ (l.account - 1) * most_short)
    × (l.sum.0 + total (account_short_in_hour b.setup b.part.rows l.operator l.hour) (counting (account_count b.setup + 1 - l.account) l.account)
    ≡ total (account_short_in_hour b.setup b.part.rows l.operator l.hour) (counting (account_count b.setup) 1))
