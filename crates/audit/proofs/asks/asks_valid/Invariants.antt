-- Zeros are places without an ask. Else the first place that is not valid decides; where none was found, all are valid if those that are
-- left are.
use Prim.Native.Nat.{◌+◌, ◌-◌, ◌≤◌}
use mathlib.Core.Path.{◌≡◌}
use Rattle.rules.specs.Basics.{every, counting}
use Rattle.rules.specs.Limits.{most_accounts, most_hours}
use Rattle.image.specs.Layout.{ask_offset}
use Rattle.audit.specs.Validity.{ask_valid, asks_valid}
use Rattle.audit.proofs.asks.asks_valid.Given as goal

abbrev pub invariant-loop-number : goal.invariant-loop-number
invariant-loop-number l =
    (1 ≤ l.number)
    × (l.number ≤ most_accounts + 1)
    × (asks_valid most_hours l.book ≡ every (λ a. ask_valid l.book a (ask_offset most_hours a)) (counting (most_accounts + 1 - l.number) l.number))
