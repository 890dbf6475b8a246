-- The first account that breaks a margin decides; where none was found, all keep them if those that are left do.
use mathlib.Core.Path.{◌∙◌, sym, ap}
use native.Mathlib.Omega.{arith}
use borrow.Author.Rules.{rules}
use Rattle.rules.specs.declared.Counts.{Counts}
use Rattle.rules.proofs.Basics.CountingLaws.{every_done, every_next, every_fails, every_same}
use Rattle.tables.proofs.MarginLaws.{margins_by_account}
use Rattle.tables.proofs.margins.margins_kept.Goals as goal

pub loop-number-init : goal.loop-number-init
loop-number-init c = (
  ap (λ (n : Counts). n.accounts) c.counts-n.ensures,
  search rules,
  search rules,
  λ rows sums. margins_by_account _ rows ∙ every_same _ _ _ _ (omega arith),
)

pub loop-number-preserved : goal.loop-number-preserved
loop-number-preserved c = (
  c.loop-number.invariant.0,
  search rules,
  search rules,
  λ rows sums. c.loop-number.invariant.3 rows sums ∙ every_next _ _ _ _ (omega arith) (sym (c.hours_kept.ensures rows sums) ∙ c.if-not-hours_kept.false),
)

pub returns-then-not-hours_kept : goal.returns-then-not-hours_kept
returns-then-not-hours_kept c rows sums =
    sym (c.loop-number.invariant.3 rows sums ∙ every_fails _ _ _ (omega arith) (sym (c.hours_kept.ensures rows sums) ∙ c.if-not-hours_kept.true))

pub returns-else-not-hours_kept : goal.returns-else-not-hours_kept
returns-else-not-hours_kept c rows sums =
    sym (c.loop-number.invariant.3 rows sums
    ∙ every_next _ _ 0 _ (omega arith) (sym (c.hours_kept.ensures rows sums) ∙ c.if-not-hours_kept.false)
    ∙ every_done _ 0 _ (omega arith))

pub returns : goal.returns
returns c rows sums = sym (c.loop-number.invariant.3 rows sums ∙ every_done _ _ _ (omega arith))
