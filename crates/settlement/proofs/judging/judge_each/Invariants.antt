-- After `k` schedules the tables are those of the first `k` in order of priority, judged one after the other.
use Prim.Native.Nat.{◌≤◌}
use lib.ListN.{length}
use Rattle.settlement.specs.Judging.{TablesIn}
use Rattle.settlement.proofs.TurnLaws.{judged_in}
use Rattle.settlement.proofs.judging.judge_each.Given as goal

abbrev pub invariant-loop-next : goal.invariant-loop-next
invariant-loop-next l =
    (l.next-index ≤ length l.order) × TablesIn l.book l.prices (judged_in l.book l.prices l.next-index) l.used l.registered.energy l.registered.charges l.results
