-- The first account whose net positions differ decides; where none was found, all agree if those that are left do.
use Prim.Native.Nat.{◌+◌, ◌-◌, ◌≤◌}
use mathlib.Core.Path.{◌≡◌}
use Rattle.rules.specs.Basics.{every, counting, up_to}
use Rattle.rules.specs.Limits.{most_accounts}
use Rattle.tables.specs.Sums.{net_stored, nets_stored}
use Rattle.tables.proofs.sums.nets_match.Given as goal

abbrev pub invariant-loop-account : goal.invariant-loop-account
invariant-loop-account l =
    (1 ≤ l.account)
    × (l.account ≤ most_accounts + 1)
    × (nets_stored l.top l.s l.nets l.table ≡ every (λ a. every (net_stored l.top l.s l.nets l.table a) (up_to l.top)) (counting (most_accounts + 1 - l.account) l.account))
