-- Rounds lead from the first one to where the replay has come. Every round on an empty buffer counts an item, so that the items that may still
-- come are the measure.
use Rattle.std.proofs.Common.{length, ◌+◌, ◌-◌, ◌≤◌, ◌≡◌}
use Rattle.replaying.specs.Lent.{step_room}
use Rattle.replaying.specs.Gathering.{Underway, so_far}
use Rattle.printing.proofs.RoundLaws.{Led}
use Rattle.printing.proofs.replay_day.Given as goal

abbrev pub invariant-loop-written : goal.invariant-loop-written
invariant-loop-written g l =
    (Led l.fn.stream (so_far l.initial.gathered l.initial.book l.initial.out) (so_far l.gathered l.book l.out))
    × (Underway l.fn.stream (so_far l.gathered l.book l.out))
    × (step_room ≤ length l.out)
    × (length l.book ≡ length l.initial.book)
    × (length l.out ≡ length l.initial.out)

abbrev pub decreases-loop-written : goal.decreases-loop-written
decreases-loop-written g l = length l.fn.stream + 2 - l.gathered.number
