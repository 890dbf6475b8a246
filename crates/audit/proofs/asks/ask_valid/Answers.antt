-- A status of 0 is that of no ask, and zeros decide; else the row does, by the counts of the set-up.
use mathlib.Core.Path.{sym, ap, ◌∙◌}
use native.Mathlib.Omega.{arith}
use Rattle.rules.specs.declared.Counts.{Counts}
use Rattle.rules.specs.Opening.{setup_of}
use Rattle.rules.proofs.Setups.SetupEntries.{counts_of_setup}
use Rattle.audit.proofs.AskTests.{without_ask, with_ask}
use Rattle.audit.proofs.asks.ask_valid.Goals as goal

-- the place lies in the book
pub row_at-r-requires : goal.row_at-r-requires
row_at-r-requires c = omega (arith, c.ask_offset-at.ensures, c.requires.0, c.requires.2)

pub all_zero-requires : goal.all_zero-requires
all_zero-requires c =
    omega (arith, c.ask_offset-at.ensures, c.requires.0, c.requires.2)

pub returns-then-r-eq0 : goal.returns-then-r-eq0
returns-then-r-eq0 c =
    rw (← c.ask_offset-at.ensures) (c.all_zero.ensures ∙ sym (without_ask _ _ _ c.row_at-r.ensures c.if-r-eq0.true))

pub returns : goal.returns
returns c =
    let same = counts_of_setup c.args.book.now ∙ sym c.counts-c.ensures in
    rw (← c.ask_offset-at.ensures) (with_ask c.args.book.now _ _ c.row_at-r.ensures c.if-r-eq0.false
    (c.row_ok.ensures (setup_of c.args.book.now) (ap (λ (n : Counts). n.accounts) same) (ap (λ (n : Counts). n.hours) same)))
