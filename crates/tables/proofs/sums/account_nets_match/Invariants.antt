-- The first hour whose net position differs decides; where none was found, all agree if those that are left do.
use Prim.Native.Nat.{◌+◌, ◌-◌, ◌≤◌}
use mathlib.Core.Path.{◌≡◌}
use Rattle.rules.specs.Basics.{every, counting}
use Rattle.tables.specs.Sums.{net_stored}
use Rattle.tables.proofs.sums.account_nets_match.Given as goal

abbrev pub invariant-loop-hour : goal.invariant-loop-hour
invariant-loop-hour l =
    (l.hour-end ≡ l.top)
    × (1 ≤ l.hour)
    × (l.hour ≤ l.hour-end + 1)
    × (every (net_stored l.top l.s l.nets l.table l.account) (counting l.top 1) ≡ every (net_stored l.top l.s l.nets l.table l.account) (counting (l.top + 1 - l.hour) l.hour))
