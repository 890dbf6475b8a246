-- The other hours break no margin, so that the search over all hours is that over the trade's, and then over those that are left.
use Rattle.std.proofs.Common.{ℕ, ◌≤◌, not, sym, ap, ◌∙◌, arith, rules}
use Rattle.rules.specs.declared.Counts.{Counts}
use Rattle.rules.specs.declared.Row.{Row}
use Rattle.rules.specs.Books.{Book}
use Rattle.book.specs.Members.{IsHour}
use Rattle.book.proofs.BookRows.{setup_tabled, counts_in_lem, margins_read, accounts_read, hours_few}
use Rattle.book.proofs.WaitLaws.{tabled_netted}
use Rattle.registration.specs.Margins.{AccountTrade}
use Rattle.registration.proofs.SearchLaws.{find_done, find_here, find_next}
use Rattle.registration.proofs.MarginLaws.{hour_room, broken_by_span, breaks_tested}
use Rattle.registration.proofs.margins.first_broken.Goals as goal

-- an hour of the trade is one of the book
trade_hour : {b : Book} {account h : ℕ} {trade : Row} → AccountTrade b account trade → trade.first ≤ h → h ≤ trade.last → IsHour b h
trade_hour t low high = (omega (arith, t.first_low, low), omega (arith, t.last_high, high))

pub loop-hour-init : goal.loop-hour-init
loop-hour-init c = (
  search rules,
  search rules,
  omega (arith, c.requires.account_trade.last_high, hours_few _ c.requires.known_book.0),
  broken_by_span _ c.requires.known_book.0 _ _ c.requires.account_trade,
)

pub margins-own-requires : goal.margins-own-requires
margins-own-requires c =
    record { whole = ((setup_tabled _ c.requires.known_book.0).whole, c.requires.account_trade.account_known.0, (accounts_read _ c.requires.known_book.0 _ c.requires.account_trade.account_known.1).0); in_day = (omega (arith, c.requires.account_trade.first_low, c.loop-hour.invariant.0), omega (arith, c.requires.account_trade.last_high, ap (λ (n : Counts). n.hours) (counts_in_lem _ c.requires.known_book.0))) }

pub account_hour-before-requires : goal.account_hour-before-requires
account_hour-before-requires c =
    record { known_book = (c.requires.known_book.0, c.requires.known_book.1.whole); account = (c.requires.account_trade.account_known, trade_hour c.requires.account_trade c.loop-hour.invariant.0 (omega arith)) }

pub after_trade-after-requires : goal.after_trade-after-requires
after_trade-after-requires c =
    let hour = trade_hour c.requires.account_trade c.loop-hour.invariant.0 (omega arith) in
    hour_room _ c.requires.known_book.0 _ _ _ _ _ c.requires.account_trade.account_known hour c.requires.known_book.1 c.requires.account_trade.quantity_high
    (c.account_hour-before.ensures ∙ tabled_netted _ c.requires.known_book.0 _ _ _ _ c.requires.known_book.1 hour)

pub loop-hour-preserved : goal.loop-hour-preserved
loop-hour-preserved c =
    let own = margins_read _ c.requires.known_book.0 _ c.args.number c.loop-hour.hour c.margins-own.ensures in
    let hour = trade_hour c.requires.account_trade c.loop-hour.invariant.0 (omega arith) in
    let held = c.account_hour-before.ensures ∙ tabled_netted _ c.requires.known_book.0 _ _ _ _ c.requires.known_book.1 hour in (
      omega arith,
      omega arith,
      c.loop-hour.invariant.2,
      c.loop-hour.invariant.3 ∙ find_next _ _ _ _ (omega arith) (breaks_tested _ _ _ _ _ _ _ _ _ own held c.after_trade-after.ensures c.keeps_margins.ensures
          ∙ ap not c.if-keeps_margins.true),
    )

pub returns-then-trade-hour : goal.returns-then-trade-hour
returns-then-trade-hour c = sym (c.loop-hour.invariant.3 ∙ find_done _ _ _ (omega arith))

pub returns-else-keeps_margins : goal.returns-else-keeps_margins
returns-else-keeps_margins c =
    let own = margins_read _ c.requires.known_book.0 _ c.args.number c.loop-hour.hour c.margins-own.ensures in
    let hour = trade_hour c.requires.account_trade c.loop-hour.invariant.0 (omega arith) in
    let held = c.account_hour-before.ensures ∙ tabled_netted _ c.requires.known_book.0 _ _ _ _ c.requires.known_book.1 hour in
    let test = breaks_tested _ _ _ _ _ _ _ _ _ own held c.after_trade-after.ensures c.keeps_margins.ensures in
    sym (c.loop-hour.invariant.3 ∙ find_here _ _ _ (omega arith) (test ∙ ap not c.if-keeps_margins.false))
