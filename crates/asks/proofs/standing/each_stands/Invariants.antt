-- The first ask that falls decides; where none fell, all stand if those that are left do.
use Prim.Native.Nat.{◌+◌, ◌-◌, ◌≤◌}
use mathlib.Core.Path.{◌≡◌}
use Rattle.rules.specs.Basics.{every, counting}
use Rattle.rules.specs.Limits.{most_accounts}
use Rattle.rules.specs.Books.{ask_at}
use Rattle.rules.specs.Asks.{ask_stands, asks_stand}
use Rattle.image.specs.Valid.{book_in}
use Rattle.asks.proofs.standing.each_stands.Given as goal

abbrev pub invariant-loop-number : goal.invariant-loop-number
invariant-loop-number l =
    (1 ≤ l.number)
    × (l.number ≤ most_accounts + 1)
    × (asks_stand (book_in l.book) ≡ every (λ a. ask_stands (book_in l.book) (ask_at (book_in l.book) a)) (counting (most_accounts + 1 - l.number) l.number))
