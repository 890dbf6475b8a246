-- The margins are tested first and then the exposure, both with the row added, as the refusals are ranked.
use Rattle.std.proofs.Common.{sym, ap, ◌∙◌}
use Rattle.rules.specs.Verdicts.{checked}
use Rattle.registration.proofs.MarginLaws.{sound_account_trade, found_hour, found_nowhere}
use Rattle.book.proofs.WorthParts.{sound_row_in_range}
use Rattle.registration.proofs.RegisterLaws.{proposing_sound, margin_breaks, row_uncovered, covered_with_row_lem}
use Rattle.registration.proofs.register.margin_or_exposure_fault.Goals as goal

pub first_broken-requires : goal.first_broken-requires
first_broken-requires c =
    record { known_book = c.requires.known_book; account_trade = rw c.proposed_row-row.ensures (sound_account_trade _ _ (proposing_sound _ _ c.requires.proposing)) }

pub returns-in-Some : goal.returns-in-Some
returns-in-Some c =
    ap checked (sym (margin_breaks _ _ c.requires.proposing _
    (found_hour _ _ _ _ _ _ c.proposed_row-row.ensures (sym c.in-Some.is ∙ c.first_broken.ensures))))

pub covered_with_row-requires : goal.covered_with_row-requires
covered_with_row-requires c =
    let row = proposing_sound _ _ c.requires.proposing in
    record { known_book = (c.requires.known_book.0, (row.proposer_low, row.proposer_high)); trade_in_range = (rw c.proposed_row-row.ensures (sound_row_in_range _ _ row), rw c.proposed_row-row.ensures) }

pub returns-then-covered_with_row : goal.returns-then-covered_with_row
returns-then-covered_with_row c =
    let kept = found_nowhere _ _ _ _ _ c.proposed_row-row.ensures (sym c.in_default.is ∙ c.first_broken.ensures) in
    ap checked (sym (covered_with_row_lem _ _ c.requires.proposing kept _ (rw c.proposed_row-row.ensures at c.covered_with_row.ensures) c.if-covered_with_row.true))

pub returns : goal.returns
returns c =
    let kept = found_nowhere _ _ _ _ _ c.proposed_row-row.ensures (sym c.in_default.is ∙ c.first_broken.ensures) in
    ap checked (sym (row_uncovered _ _ c.requires.proposing kept _ (rw c.proposed_row-row.ensures at c.covered_with_row.ensures) c.if-covered_with_row.false))
