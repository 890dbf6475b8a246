-- After `k` schedules the tables are those of the first `k` in order of priority, judged one after the other.
use native.Mathlib.Omega.{arith}
use borrow.Author.Rules.{rules}
use Rattle.settlement.proofs.TurnLaws.{all_in_order, schedule_in_turn, tables_begin, tables_end, in_place, next-room, tables_follow}
use Rattle.settlement.proofs.judging.judge_each.Goals as goal

pub loop-next-init : goal.loop-next-init
loop-next-init c = (search rules, tables_begin _ _ _ _ _ _ c.requires.nothing_judged.0 c.requires.nothing_judged.1)

pub judge-result-requires : goal.judge-result-requires
judge-result-requires c =
    let turn = schedule_in_turn _ _ _ c.requires.in_order c.loop-next-test.true in
    record { priced = (c.requires.priced, (in_place _ _ c.requires.priced _ turn.0 _ turn.1).in_range); room_for = next-room _ _ c.requires.priced _ turn.0 _ turn.1 _ _ _ _ c.loop-next.invariant.1 }

pub overflow_sub-results : goal.overflow_sub-results
overflow_sub-results c =
    let turn = schedule_in_turn _ _ _ c.requires.in_order c.loop-next-test.true in
    (in_place _ _ c.requires.priced _ turn.0 _ turn.1).place_low

pub bounds-results-next : goal.bounds-results-next
bounds-results-next c =
    let turn = schedule_in_turn _ _ _ c.requires.in_order c.loop-next-test.true in
    let place = in_place _ _ c.requires.priced _ turn.0 _ turn.1 in
    omega (arith, place.place_low, place.place_high, c.loop-next.invariant.1.results_of.whole)

pub loop-next-preserved : goal.loop-next-preserved
loop-next-preserved c =
    let turn = schedule_in_turn _ _ _ c.requires.in_order c.loop-next-test.true in
    (search rules, tables_follow _ _ c.requires.priced c.loop-next.next-index turn.0 _ turn.1 _ _ _ _ _ _ _ _ c.judge-result.ensures.limits c.judge-result.ensures.sums c.loop-next.invariant.1)

pub returns : goal.returns
returns c =
    tables_end _ _ c.loop-next.next-index _ _ _ _ (omega (arith, all_in_order _ _ c.requires.in_order, c.loop-next.invariant.0)) c.loop-next.invariant.1
