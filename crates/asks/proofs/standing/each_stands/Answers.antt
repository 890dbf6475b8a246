-- The first ask that falls decides; where none fell, all stand if those that are left do.
use mathlib.Core.Path.{refl, ◌∙◌, sym}
use native.Mathlib.Omega.{arith}
use Rattle.rules.specs.Asks.{asks_stand}
use Rattle.rules.proofs.Basics.CountingLaws.{every_done, every_next, every_fails}
use borrow.Author.Rules.{rules}
use Rattle.asks.proofs.standing.each_stands.Goals as goal

pub loop-number-init : goal.loop-number-init
unfolding asks_stand
loop-number-init c = (search rules, search rules, refl)

pub loop-number-preserved : goal.loop-number-preserved
loop-number-preserved c = (
  search rules,
  search rules,
  c.loop-number.invariant.2 ∙ every_next _ _ _ _ (omega arith) (sym c.ask_stands.ensures ∙ c.if-not-ask_stands.false),
)

pub returns-then-not-ask_stands : goal.returns-then-not-ask_stands
returns-then-not-ask_stands c =
    sym (c.loop-number.invariant.2 ∙ every_fails _ _ _ (omega arith) (sym c.ask_stands.ensures ∙ c.if-not-ask_stands.true))

pub returns : goal.returns
returns c = sym (c.loop-number.invariant.2 ∙ every_done _ _ _ (omega arith))
