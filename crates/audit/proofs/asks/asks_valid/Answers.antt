-- Zeros are places without an ask. Else the first place that is not valid decides; where none was found, all are valid if those that are
-- left are.
use mathlib.Core.Path.{◌∙◌, refl, sym}
use native.Mathlib.Omega.{arith}
use borrow.Author.Rules.{rules}
use Rattle.rules.specs.Limits.{most_hours}
use Rattle.rules.proofs.Basics.CountingLaws.{every_done, every_next, every_fails}
use Rattle.audit.specs.Validity.{asks_valid}
use Rattle.audit.proofs.AskTests.{zero_asks}
use Rattle.audit.proofs.asks.asks_valid.Goals as goal

pub returns-then-all_zero : goal.returns-then-all_zero
returns-then-all_zero c =
    sym (zero_asks most_hours _ (omega (arith, c.requires)) (sym c.all_zero.ensures ∙ c.if-all_zero.true))

pub loop-number-init : goal.loop-number-init
unfolding asks_valid
loop-number-init c = (search rules, search rules, refl)

pub loop-number-preserved : goal.loop-number-preserved
loop-number-preserved c =
    (search rules, search rules, c.loop-number.invariant.2 ∙ every_next _ _ _ _ (omega arith) (sym c.ask_valid.ensures ∙ c.if-not-ask_valid.false))

pub returns-then-not-ask_valid : goal.returns-then-not-ask_valid
returns-then-not-ask_valid c =
    sym (c.loop-number.invariant.2 ∙ every_fails _ _ _ (omega arith) (sym c.ask_valid.ensures ∙ c.if-not-ask_valid.true))

pub returns : goal.returns
returns c = sym (c.loop-number.invariant.2 ∙ every_done _ _ _ (omega arith))
