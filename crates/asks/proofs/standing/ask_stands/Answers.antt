-- Without an ask there is nothing to judge; else the tests of register are made, each on the book as it would be.
use mathlib.Core.Path.{sym, ◌∙◌}
use native.Mathlib.Omega.{arith}
use Rattle.asks.proofs.StandingLaws.{ask_row, ask_in_range, later_falls, full_falls, broken_falls, covered_decides}
use Rattle.rules.specs.declared.phases.Phase.TheVariants.{Registration}
use Rattle.book.proofs.PhaseLaws.{other_phase, same_phase}
use Rattle.asks.proofs.standing.ask_stands.Goals as goal

pub returns-then-ne : goal.returns-then-ne
returns-then-ne c =
    later_falls _ c.requires.ask_inputs.sale_inputs.is_sound _ _ c.requires.known_book.1 c.requires.known_book.2 (sym c.asked_row.ensures ∙ c.in-Some.is)
    (other_phase _ Registration c.phase.ensures c.ne.ensures c.if-ne.true)

pub returns-then-row_count-ge-MOST_ROWS : goal.returns-then-row_count-ge-MOST_ROWS
returns-then-row_count-ge-MOST_ROWS c =
    let first = same_phase _ Registration c.phase.ensures c.ne.ensures c.if-ne.false in
    full_falls _ c.requires.ask_inputs.sale_inputs.is_sound _ _ c.requires.known_book.1 c.requires.known_book.2 (sym c.asked_row.ensures ∙ c.in-Some.is) c.requires.known_book.0 first
    (omega (arith, c.row_count.ensures.meaning))

pub keeps_margins_with-requires-clause-sound_row : goal.keeps_margins_with-requires-clause-sound_row
keeps_margins_with-requires-clause-sound_row c =
    ask_in_range _ c.requires.ask_inputs.sale_inputs.is_sound _ _ c.requires.known_book.1 c.requires.known_book.2 (sym c.asked_row.ensures ∙ c.in-Some.is)

pub covered_with-requires-clause-sound_row : goal.covered_with-requires-clause-sound_row
covered_with-requires-clause-sound_row c =
    let there = sym c.asked_row.ensures ∙ c.in-Some.is in
    let sound = c.requires.ask_inputs.sale_inputs.is_sound in (
      ask_in_range _ sound _ _ c.requires.known_book.1 c.requires.known_book.2 there,
      (ask_row _ sound _ _ c.requires.known_book.1 c.requires.known_book.2 there).waits,
    )

pub returns-then-keeps_margins_with : goal.returns-then-keeps_margins_with
returns-then-keeps_margins_with c =
    let first = same_phase _ Registration c.phase.ensures c.ne.ensures c.if-ne.false in
    covered_decides _ c.requires.ask_inputs.sale_inputs.is_sound _ _ c.requires.known_book.1 c.requires.known_book.2 (sym c.asked_row.ensures ∙ c.in-Some.is) c.requires.known_book.0 first
    (omega arith) (sym c.keeps_margins_with.ensures ∙ c.if-keeps_margins_with.true) _ c.covered_with.ensures

pub returns : goal.returns
returns c =
    let first = same_phase _ Registration c.phase.ensures c.ne.ensures c.if-ne.false in
    broken_falls _ c.requires.ask_inputs.sale_inputs.is_sound _ _ c.requires.known_book.1 c.requires.known_book.2 (sym c.asked_row.ensures ∙ c.in-Some.is) c.requires.known_book.0 first
    (omega arith) (sym c.keeps_margins_with.ensures ∙ c.if-keeps_margins_with.false)
