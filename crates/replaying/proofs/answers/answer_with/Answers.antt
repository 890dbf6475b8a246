-- As many schedules and operators as the book had before the call, which a settle does not change, are read from the buffers.
use Prim.Native.Nat.{ℕ, ◌*◌}
use mathlib.Core.Path.{ap, ◌∙◌}
use native.Mathlib.Omega.{arith}
use borrow.Author.Rules.{rules}
use lib.ListN.{length, length-replicate}
use Rattle.rules.specs.Limits.{most_hours, most_schedules, most_operators, book_size}
use Rattle.image.proofs.Round.{book_is_sound, book_is_image}
use Rattle.book.proofs.StateLaws.{book_length}
use Rattle.settlement.proofs.Refusals.{operators_counted, operators_few}
use Rattle.items.proofs.WrittenLaws.{written_as}
use Rattle.replaying.proofs.AnswerLaws.{answer_prints, answer_small}
use Rattle.valuation.specs.Tables.{balance_width}
use Rattle.replaying.proofs.answers.answer_with.Goals as goal

pub counts-n-requires : goal.counts-n-requires
counts-n-requires c = let n = book_length _ (book_is_sound most_hours book_size _ c.requires.known_book) in omega arith

pub schedule_count-standing-requires : goal.schedule_count-standing-requires
schedule_count-standing-requires c =
    book_is_sound most_hours book_size _ c.requires.known_book

pub put_answer-requires : goal.put_answer-requires
put_answer-requires c =
    let sound = book_is_sound most_hours book_size _ c.requires.known_book in
    let valid = (book_is_image most_hours book_size _ c.requires.known_book).1 in
    let said = c.call_item-outcome.ensures.answer in
    let few = operators_few _ sound _ c.counts-n.ensures in
    let results = ap length c.requires.buffers_clear.0 in
    let balances = ap length c.requires.buffers_clear.1 in
    record {
      fits = (omega (arith, length-replicate {A = ℕ} most_schedules 0), few, omega (arith, length-replicate {A = ℕ} (balance_width * most_operators) 0));
      room = omega arith;
      each = answer_small _ valid _ said.outcome_given c.settles-settled.ensures _ (operators_counted _ sound _ c.counts-n.ensures) said.balances_left;
    }

pub returns-clause-lines : goal.returns-clause-lines
returns-clause-lines c =
    let sound = book_is_sound most_hours book_size _ c.requires.known_book in
    let valid = (book_is_image most_hours book_size _ c.requires.known_book).1 in
    let said = c.call_item-outcome.ensures.answer in
    let counted = operators_counted _ sound _ c.counts-n.ensures in
    let prints = answer_prints _ valid _ said.outcome_given c.settles-settled.ensures _ _ _ c.schedule_count-standing.ensures.meaning counted said.results_left said.balances_left in
    let written = written_as _ prints c.put_answer.ensures.put.written in
    record { put = search rules ∙ written.put; behind = written.behind }

pub returns-clause-bound : goal.returns-clause-bound
returns-clause-bound c =
    let few = operators_few _ (book_is_sound most_hours book_size _ c.requires.known_book) _ c.counts-n.ensures in omega arith
