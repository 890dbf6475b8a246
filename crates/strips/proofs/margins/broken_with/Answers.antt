-- The search over all hours is that over the hours that are left, whatever pending rows the table has beside those of the book.
use mathlib.Core.Path.{◌∙◌, sym, ap}
use mathlib.Core.Bool.{not}
use native.Mathlib.Omega.{arith}
use Rattle.rules.specs.declared.Counts.{Counts}
use Rattle.image.specs.Valid.{book_in}
use Rattle.book.specs.Members.{IsHour}
use Rattle.book.proofs.StateLaws.{book_length}
use Rattle.book.proofs.BookRows.{setup_tabled, counts_in_lem, margins_read, accounts_read, hours_few}
use Rattle.registration.proofs.SearchLaws.{find_done, find_here, find_next}
use Rattle.registration.proofs.MarginLaws.{broken_by_hours, breaks_with_tested}
use Rattle.strips.proofs.margins.broken_with.Goals as goal

pub counts-n-requires : goal.counts-n-requires
counts-n-requires c = let n = book_length _ c.requires.0 in omega arith

pub loop-hour-init : goal.loop-hour-init
loop-hour-init c =
    let hours = ap (λ (n : Counts). n.hours) (c.counts-n.ensures ∙ sym (counts_in_lem _ c.requires.0)) in (
      omega arith,
      omega arith,
      hours,
      omega (arith, hours, hours_few _ c.requires.0),
      λ added waits w. broken_by_hours _ _ added _ _ hours,
    )

pub margins-own-requires : goal.margins-own-requires
margins-own-requires c =
    let hours = ap (λ (n : Counts). n.hours) (counts_in_lem _ c.requires.0) in
    record { whole = ((setup_tabled _ c.requires.0).whole, c.requires.1.0, (accounts_read _ c.requires.0 _ c.requires.1.1).0); in_day = (c.loop-hour.invariant.0, omega (arith, hours, c.loop-hour.invariant.2)) }

pub account_hour-held-requires : goal.account_hour-held-requires
account_hour-held-requires c =
    record { known_book = (c.requires.0, c.requires.2); account = (c.requires.1, (c.loop-hour.invariant.0, omega (arith, c.loop-hour.invariant.2))) }

pub loop-hour-preserved : goal.loop-hour-preserved
loop-hour-preserved c =
    let own = margins_read _ c.requires.0 _ c.args.number c.loop-hour.hour c.margins-own.ensures in
    let hour : IsHour (book_in c.args.book.now) c.loop-hour.hour = (c.loop-hour.invariant.0, omega (arith, c.loop-hour.invariant.2)) in (
      omega arith,
      omega arith,
      c.loop-hour.invariant.2,
      c.loop-hour.invariant.3,
      λ added waits w. let test = breaks_with_tested _ c.requires.0 added _ _ _ _ _ _ waits w hour own c.account_hour-held.ensures c.keeps_margins.ensures in
          c.loop-hour.invariant.4 added waits w ∙ find_next _ _ _ _ (omega arith) (test ∙ ap not c.if-keeps_margins.true),
    )

pub returns-then-n-hour : goal.returns-then-n-hour
returns-then-n-hour c added waits w = sym (c.loop-hour.invariant.4 added waits w ∙ find_done _ _ _ (omega arith))

pub returns-else-keeps_margins : goal.returns-else-keeps_margins
returns-else-keeps_margins c added waits w =
    let own = margins_read _ c.requires.0 _ c.args.number c.loop-hour.hour c.margins-own.ensures in
    let hour : IsHour (book_in c.args.book.now) c.loop-hour.hour = (c.loop-hour.invariant.0, omega (arith, c.loop-hour.invariant.2)) in
    let test = breaks_with_tested _ c.requires.0 added _ _ _ _ _ _ waits w hour own c.account_hour-held.ensures c.keeps_margins.ensures in
    sym (c.loop-hour.invariant.4 added waits w ∙ find_here _ _ _ (omega arith) (test ∙ ap not c.if-keeps_margins.false))
