-- The length is looked at first, then what is found at the front; a whole item is opened as the set-up.
use mathlib.Core.Path.{refl, sym, ◌∙◌}
use native.Mathlib.Omega.{arith}
use borrow.Author.Rules.{rules}
use Rattle.items.proofs.StreamLaws.{found_within}
use Rattle.replaying.proofs.StepLaws.{does_as, does_end, ended_not_on, ended_without, one_line, no_line, begin_long, begin_whole, begin_cut, begin_end, open_next}
use Rattle.replaying.proofs.steps.begin.Goals as goal

pub returns-then-stream-gt-LONGEST_STREAM : goal.returns-then-stream-gt-LONGEST_STREAM
returns-then-stream-gt-LONGEST_STREAM c =
    let e = c.ended.ensures in
    let does =
    does_as c.args.book.now c.args.out.now (begin_long c.args.stream.now c.if-stream-gt-LONGEST_STREAM.true)
    (does_end _ (one_line _ c.put_long.ensures.put.written) (omega arith) e (refl {a = c.args.book.now}) e) in
    record { answer = does.0; book = does.1.0; out = search rules ∙ does.1.1.0; bound = does.1.1.1.0; opens = ended_not_on e; onward = ended_without _ e }

pub returns-in-Whole : goal.returns-in-Whole
returns-in-Whole c =
    let found = sym c.next_item-found.ensures ∙ c.in-Whole.is in
    let w = found_within _ _ _ _ found in
    let o = c.open_setup.ensures in
    let onward = open_next _ _ _ _ o.answer w.in_stream in
    let does = does_as c.args.book.now c.args.out.now (begin_whole c.args.stream.now c.if-stream-gt-LONGEST_STREAM.false _ _ found) (o.answer, (o.book, (o.out, (o.bound, o.opens)))) in
    record { answer = does.0; book = does.1.0; out = does.1.1.0; bound = does.1.1.1.0; opens = does.1.1.1.1; onward = onward }

pub returns-in-Cut : goal.returns-in-Cut
returns-in-Cut c =
    let found = sym c.next_item-found.ensures ∙ c.in-Cut.is in
    let e = c.ended-in-Cut.ensures in
    let does =
    does_as c.args.book.now c.args.out.now (begin_cut c.args.stream.now c.if-stream-gt-LONGEST_STREAM.false found)
    (does_end _ (one_line _ c.put_cut.ensures.put.written) (omega arith) e (refl {a = c.args.book.now}) e) in
    record { answer = does.0; book = does.1.0; out = search rules ∙ does.1.1.0; bound = does.1.1.1.0; opens = ended_not_on e; onward = ended_without _ e }

pub returns-in-End : goal.returns-in-End
returns-in-End c =
    let found = sym c.next_item-found.ensures ∙ c.in-End.is in
    let e = c.ended-in-End.ensures in
    let does =
    does_as c.args.book.now c.args.out.now (begin_end c.args.stream.now c.if-stream-gt-LONGEST_STREAM.false found)
    (does_end _ (no_line c.args.out.now) (omega arith) e (refl {a = c.args.book.now}) e) in
    record { answer = does.0; book = does.1.0; out = does.1.1.0; bound = does.1.1.1.0; opens = ended_not_on e; onward = ended_without _ e }
