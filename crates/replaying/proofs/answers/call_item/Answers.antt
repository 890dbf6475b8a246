-- The two parts of the item are the record and the prices of its call.
use mathlib.Core.Path.{sym}
use lib.Seq.{length-take-le}
use Rattle.items.proofs.StreamLaws.{record_within}
use Rattle.replaying.proofs.CallLaws.{item_called}
use Rattle.replaying.proofs.answers.call_item.Goals as goal

pub slice_bounds-call_in-end : goal.slice_bounds-call_in-end
slice_bounds-call_in-end c = rw c.record_length-n.ensures (sym (length-take-le _ _ (record_within _)))

pub slice_bounds-call_in-count : goal.slice_bounds-call_in-count
slice_bounds-call_in-count c = rw c.record_length-n.ensures (record_within _)

pub slice_bounds-call_in-start : goal.slice_bounds-call_in-start
slice_bounds-call_in-start c = rw c.record_length-n.ensures (record_within _)

pub returns-clause-answer : goal.returns-clause-answer
returns-clause-answer c =
    let clear = c.requires.buffers_clear in
    let said = c.call_in.ensures in
    (item_called _ _ c.requires.known_book c.record_length-n.ensures clear.0 clear.1 (said.answer, said.still)).0
