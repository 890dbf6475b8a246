-- The margins are tested first and then the exposure, both as they are once the row is confirmed, as the refusals are ranked.
use Rattle.std.proofs.Common.{sym, ap, ◌∙◌}
use Rattle.rules.specs.Verdicts.{checked}
use Rattle.registration.proofs.ConfirmLaws.{named_waits, caller_in_book, account-trade, trade_breaks, trade_uncovered, covered_with_trade_lem}
use Rattle.registration.proofs.confirm.margin_or_exposure_fault.Goals as goal

pub broken_hour-requires : goal.broken_hour-requires
broken_hour-requires c =
    (c.requires.0, account-trade _ _ c.requires.0 (named_waits _ _ _ c.requires.0 c.requires.1) _ c.confirmed_row-trade.ensures _ (caller_in_book _ _ _ c.requires.0 c.requires.1))

pub returns-in-Some : goal.returns-in-Some
returns-in-Some c =
    ap checked (sym (trade_breaks _ _ _ c.requires.0 c.requires.1 _ c.confirmed_row-trade.ensures _ (sym c.in-Some.is ∙ c.broken_hour.ensures)))

pub covered_with_trade-requires : goal.covered_with_trade-requires
covered_with_trade-requires c =
    record { known_book = (c.requires.0, caller_in_book _ _ _ c.requires.0 c.requires.1); waits_in = (named_waits _ _ _ c.requires.0 c.requires.1, c.confirmed_row-trade.ensures) }

pub returns-then-covered_with_trade : goal.returns-then-covered_with_trade
returns-then-covered_with_trade c =
    ap checked (sym (covered_with_trade_lem _ _ _ c.requires.0 c.requires.1 _ c.confirmed_row-trade.ensures (sym c.in_default.is ∙ c.broken_hour.ensures) _
    c.covered_with_trade.ensures c.if-covered_with_trade.true))

pub returns : goal.returns
returns c =
    ap checked (sym (trade_uncovered _ _ _ c.requires.0 c.requires.1 _ c.confirmed_row-trade.ensures (sym c.in_default.is ∙ c.broken_hour.ensures) _
    c.covered_with_trade.ensures c.if-covered_with_trade.false))
