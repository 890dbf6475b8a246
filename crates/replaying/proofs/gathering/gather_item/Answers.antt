-- The item's lines stand behind those that were gathered, and what its step leaves is still to come.
use borrow.Author.Rules.{rules}
use Rattle.wire.proofs.NumberLaws.{bytes_known}
use Rattle.replaying.proofs.GatherLaws.{item_left, item_whole}
use Rattle.replaying.proofs.gathering.gather_item.Goals as goal

pub returns-clause-left : goal.returns-clause-left
returns-clause-left c =
    let before = c.requires.underway in
    let on = c.requires.going_on.0 in
    let step = c.replay_item-step.ensures in
    item_left _ _ _ _ _ on (bytes_known _ c.type_inv.stream) (before.onward _ on).0 before.room step.answer step.book step.out

pub returns-clause-follows : goal.returns-clause-follows
returns-clause-follows c =
    let before = c.requires.underway in
    let on = c.requires.going_on.0 in
    let step = c.replay_item-step.ensures in
    record {
      whole = item_whole _ _ _ _ _ on (bytes_known _ c.type_inv.stream) (before.onward _ on).0 before.room _ _ step.answer step.book step.out;
      underway = search rules;
    }
