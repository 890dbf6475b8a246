-- Each round of the loop keeps the whole text and counts one item, so that the items that may still come are the measure.
use Prim.Native.Nat.{◌+◌, ◌-◌, ◌<◌}
use mathlib.Core.Path.{◌≡◌}
use mathlib.Core.Logic.{◌⊎◌}
use lib.ListN.{length}
use Rattle.replaying.specs.Gathering.{Follows, so_far, all_gathered}
use Rattle.replaying.proofs.gathering.gather.Given as goal

abbrev pub invariant-loop-reached : goal.invariant-loop-reached
invariant-loop-reached l =
    (all_gathered l.stream (so_far l.reached l.book l.out) ≡ all_gathered l.stream (so_far l.initial.reached l.initial.book l.initial.out))
    × (Follows l.stream (so_far l.initial.reached l.initial.book l.initial.out) (so_far l.reached l.book l.out))
    × ((l.initial.reached.number < l.reached.number) ⊎ (l.reached ≡ l.initial.reached))
    × (length l.book ≡ length l.initial.book)
    × (length l.out ≡ length l.initial.out)

abbrev pub decreases-loop-reached : goal.decreases-loop-reached
decreases-loop-reached l = length l.stream + 2 - l.reached.number
