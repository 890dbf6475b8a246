-- The other hours break no margin, so that the search over all hours is that over the row's, and then over those that are left.
use mathlib.Core.Path.{◌≡◌, refl, ◌∙◌, sym, ap}
use mathlib.Core.Bool.{not}
use mathlib.Core.List.{[], ◌∷◌}
use native.Mathlib.Omega.{arith}
use Rattle.rules.specs.declared.Counts.{Counts}
use Rattle.image.proofs.Sound.Soundness.{sound_row}
use Rattle.book.proofs.BookRows.{setup_tabled, counts_in_lem, margins_read, accounts_read, hours_few}
use Rattle.registration.proofs.SearchLaws.{find_done, find_here, find_next}
use Rattle.image.specs.Valid.{book_in}
use Rattle.registration.proofs.MarginLaws.{breaks_with, broken_by_span, sound_account_trade}
use Rattle.asks.proofs.SharedLaws.{hour_fits, breaks_summed}
use Rattle.asks.proofs.standing.keeps_margins_with.Goals as goal
use Rattle.asks.proofs.standing.keeps_margins_with.Goals.{After-keeps_margins}

pub loop-hour-init : goal.loop-hour-init
loop-hour-init c =
    let k = sound_row _ _ c.requires.sound_row in (
      omega arith,
      refl,
      omega (arith, k.in_order),
      omega (arith, k.last_high, hours_few _ c.requires.known_book.0),
      broken_by_span _ c.requires.known_book.0 _ _ (sound_account_trade _ _ k),
    )

pub margins-own-requires : goal.margins-own-requires
margins-own-requires c =
    let k = sound_row _ _ c.requires.sound_row in
    record { whole = ((setup_tabled _ c.requires.known_book.0).whole, k.proposer_low, (accounts_read _ c.requires.known_book.0 _ k.proposer_high).0); in_day = (omega (arith, k.first_low, c.loop-hour.invariant.0), omega (arith, k.last_high, ap (λ (n : Counts). n.hours) (counts_in_lem _ c.requires.known_book.0))) }

pub account_hour-before-requires : goal.account_hour-before-requires
account_hour-before-requires c =
    let k = sound_row _ _ c.requires.sound_row in (
      record { whole = c.requires.known_book.1.whole; top_high = omega arith },
      record {
        account_low = k.proposer_low;
        account_high = (accounts_read _ c.requires.known_book.0 _ k.proposer_high).1;
        hour_low = omega (arith, k.first_low, c.loop-hour.invariant.0);
        hour_high = omega (arith, c.loop-hour.invariant.3);
      },
    )

pub after_trade-after-requires : goal.after_trade-after-requires
after_trade-after-requires c =
    hour_fits _ c.requires.known_book.0 _ _ _ c.args.row (c.account_hour-before.ensures _ c.requires.known_book.1) (sound_row _ _ c.requires.sound_row).quantity_high

-- the test of the hour, by the definition
test : (c : After-keeps_margins) → breaks_with (book_in c.args.book.now).setup (book_in c.args.book.now).part.rows (c.args.row ∷ []) c.args.row.proposer c.loop-hour.hour ≡ not c.keeps_margins.result
test c =
    let own = margins_read _ c.requires.known_book.0 _ c.args.row.proposer c.loop-hour.hour c.margins-own.ensures in
    breaks_summed _ _ c.args.row _ _ _ _ _ _ own (c.account_hour-before.ensures _ c.requires.known_book.1) c.after_trade-after.ensures c.keeps_margins.ensures

pub loop-hour-preserved : goal.loop-hour-preserved
loop-hour-preserved c =
    (omega arith, c.loop-hour.invariant.1, omega arith, c.loop-hour.invariant.3, c.loop-hour.invariant.4 ∙ find_next _ _ _ _ (omega arith) (test (goal.at.loop-hour-preserved c).After-keeps_margins ∙ ap not c.if-not-keeps_margins.false))

pub returns-then-not-keeps_margins : goal.returns-then-not-keeps_margins
returns-then-not-keeps_margins c =
    sym (rw (c.loop-hour.invariant.4 ∙ find_here _ _ _ (omega arith) (test (goal.at.returns-then-not-keeps_margins c).After-keeps_margins ∙ ap not c.if-not-keeps_margins.true)))

pub returns : goal.returns
returns c = sym (rw (c.loop-hour.invariant.4 ∙ find_done _ _ _ (omega arith)))

pub returns-else-not-keeps_margins : goal.returns-else-not-keeps_margins
returns-else-not-keeps_margins c =
    sym (rw (c.loop-hour.invariant.4 ∙ find_next _ _ 0 _ (omega arith) (test (goal.at.returns-else-not-keeps_margins c).After-keeps_margins ∙ ap not c.if-not-keeps_margins.false) ∙ find_done _ _ _ (omega arith)))
