-- The first hour that breaks a margin decides; where none was found, all keep them if those that are left do.
use mathlib.Core.Path.{◌∙◌, sym, ap}
use native.Mathlib.Omega.{arith}
use borrow.Author.Rules.{rules}
use Rattle.rules.specs.declared.Counts.{Counts}
use Rattle.rules.proofs.Basics.CountingLaws.{every_done, every_next, every_fails, every_same}
use Rattle.tables.proofs.MarginLaws.{margins_by_hour_lem, hour_kept_lem}
use Rattle.tables.proofs.margins.hours_kept.Goals as goal

pub loop-hour-init : goal.loop-hour-init
loop-hour-init c = (
  ap (λ (n : Counts). n.hours) c.counts-n.ensures,
  search rules,
  search rules,
  λ rows sums. margins_by_hour_lem _ rows _ ∙ every_same _ _ _ _ (omega arith),
)

pub loop-hour-preserved : goal.loop-hour-preserved
loop-hour-preserved c = (
  c.loop-hour.invariant.0,
  search rules,
  search rules,
  λ rows sums.
      c.loop-hour.invariant.3 rows sums
      ∙ every_next _ _ _ _ (omega arith) (hour_kept_lem _ rows _ _ _ _ c.margins-own.ensures (c.account_hour-x.ensures rows sums) c.keeps_margins.ensures ∙ c.if-not-keeps_margins.false),
)

pub returns-then-not-keeps_margins : goal.returns-then-not-keeps_margins
returns-then-not-keeps_margins c rows sums =
    sym (c.loop-hour.invariant.3 rows sums
    ∙ every_fails _ _ _ (omega arith) (hour_kept_lem _ rows _ _ _ _ c.margins-own.ensures (c.account_hour-x.ensures rows sums) c.keeps_margins.ensures ∙ c.if-not-keeps_margins.true))

pub returns-else-not-keeps_margins : goal.returns-else-not-keeps_margins
returns-else-not-keeps_margins c rows sums =
    sym (c.loop-hour.invariant.3 rows sums
    ∙ every_next _ _ 0 _ (omega arith) (hour_kept_lem _ rows _ _ _ _ c.margins-own.ensures (c.account_hour-x.ensures rows sums) c.keeps_margins.ensures ∙ c.if-not-keeps_margins.false)
    ∙ every_done _ 0 _ (omega arith))

pub returns : goal.returns
returns c rows sums = sym (c.loop-hour.invariant.3 rows sums ∙ every_done _ _ _ (omega arith))
