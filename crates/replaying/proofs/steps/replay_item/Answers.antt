-- What is found at the offset decides; a whole item is answered, and its lines are the step's.
use mathlib.Core.Path.{◌≡◌, refl, sym, ◌∙◌}
use native.Mathlib.Omega.{arith}
use borrow.Author.Rules.{rules}
use Rattle.image.specs.Valid.{book_in}
use Rattle.items.proofs.StreamLaws.{found_within}
use Rattle.replaying.proofs.StepLaws.{does_go_on, does_as, does_end, ended_without, one_line, no_line, step_whole, step_cut, step_end}
use Rattle.replaying.proofs.steps.replay_item.Goals as goal

pub returns-in-Whole : goal.returns-in-Whole
returns-in-Whole c =
    let found = sym c.next_item-found.ensures ∙ c.in-Whole.is in
    let w = found_within _ _ _ _ found in
    let said = c.answer_item-past.ensures in
    let does =
    does_as c.args.book.now c.args.out.now (step_whole (book_in c.args.book.now) c.args.number c.args.stream.now c.args.at _ _ found)
    (does_go_on _ said.lines said.bound c.args.book.now _ c.in-Whole.end said.book said.still) in
    record { answer = does.0; book = does.1.0; out = does.1.1.0; bound = does.1.1.1.0; still = said.still; onward = λ at e. let same : at ≡ c.in-Whole.end = cc in (omega (arith, w.in_order), omega (arith, w.in_stream)) }

pub returns-in-Cut : goal.returns-in-Cut
returns-in-Cut c =
    let does =
    does_as c.args.book.now c.args.out.now (step_cut (book_in c.args.book.now) c.args.number c.args.stream.now c.args.at (sym c.next_item-found.ensures ∙ c.in-Cut.is))
    (does_end _ (one_line _ c.put_cut.ensures.put.written) (omega arith) c.ended.ensures (refl {a = c.args.book.now}) c.requires.known_book) in
    record { answer = does.0; book = does.1.0; out = search rules ∙ does.1.1.0; bound = does.1.1.1.0; still = c.requires.known_book; onward = ended_without _ c.ended.ensures }

pub returns-in-End : goal.returns-in-End
returns-in-End c =
    let does =
    does_as c.args.book.now c.args.out.now (step_end (book_in c.args.book.now) c.args.number c.args.stream.now c.args.at (sym c.next_item-found.ensures ∙ c.in-End.is))
    (does_end _ (no_line c.args.out.now) (omega arith) c.ended-in-End.ensures (refl {a = c.args.book.now}) c.requires.known_book) in
    record { answer = does.0; book = does.1.0; out = does.1.1.0; bound = does.1.1.1.0; still = c.requires.known_book; onward = ended_without _ c.ended-in-End.ensures }
