-- Each round of the loop keeps the whole text and counts one item, so that the items that may still come are the measure.
use mathlib.Core.Path.{sym, ap, ◌∙◌}
use native.Mathlib.Omega.{arith}
use borrow.Author.Rules.{rules}
use Rattle.replaying.proofs.GatherLaws.{stops_ended, stops_full, all_turn, all_done}
use Rattle.replaying.specs.Gathering.{all_gathered}
use Rattle.replaying.proofs.gathering.gather.Goals as goal

pub loop-reached-preserved : goal.loop-reached-preserved
loop-reached-preserved c =
    let before = c.loop-reached.invariant in
    let on = before.1.underway.onward _ c.in-Some.is in
    let item = c.gather_item-reached.ensures in (
      ap (all_gathered _) item.left ∙ all_turn _ _ _ _ c.in-Some.is (omega arith) (omega arith) ∙ before.0,
      record { whole = item.follows.whole ∙ before.1.whole; underway = item.follows.underway },
      search rules,
      search rules,
      search rules,
    )

pub returns-in-loop-reached-clause-left : goal.returns-in-loop-reached-clause-left
returns-in-loop-reached-clause-left c =
    sym (all_done _ _ (stops_ended _ _ _ (search rules))) ∙ c.loop-reached.invariant.0

pub returns-else-reached-last-clause-left : goal.returns-else-reached-last-clause-left
returns-else-reached-last-clause-left c =
    sym (all_done _ _ (stops_full _ _ _ c.in-Some.is (omega arith))) ∙ c.loop-reached.invariant.0
