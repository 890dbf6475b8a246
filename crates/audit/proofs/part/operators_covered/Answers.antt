-- The first operator that is not covered decides; where none was found, all are covered if those that are left are.
use mathlib.Core.Path.{◌∙◌, sym, ap}
use native.Mathlib.Omega.{arith}
use borrow.Author.Rules.{rules}
use Rattle.rules.specs.declared.Counts.{Counts}
use Rattle.rules.proofs.Setups.SetupEntries.{counts_of_setup}
use Rattle.rules.proofs.Basics.CountingLaws.{every_done, every_next, every_fails, every_same}
use Rattle.image.specs.Valid.{operators_covered}
use Rattle.audit.proofs.part.operators_covered.Goals as goal

pub loop-number-init : goal.loop-number-init
unfolding operators_covered
loop-number-init c = (
  ap (λ (n : Counts). n.operators) c.counts-n.ensures,
  search rules,
  search rules,
  λ rows sums. every_same _ _ _ _ (ap (λ (n : Counts). n.operators) (counts_of_setup c.args.book.now) ∙ omega arith),
)

pub loop-number-preserved : goal.loop-number-preserved
loop-number-preserved c = (
  c.loop-number.invariant.0,
  search rules,
  search rules,
  λ rows sums. c.loop-number.invariant.3 rows sums ∙ every_next _ _ _ _ (omega arith) (sym (c.operator_covered.ensures rows sums) ∙ c.if-not-operator_covered.false),
)

pub returns-then-not-operator_covered : goal.returns-then-not-operator_covered
returns-then-not-operator_covered c rows sums =
    sym (c.loop-number.invariant.3 rows sums ∙ every_fails _ _ _ (omega arith) (sym (c.operator_covered.ensures rows sums) ∙ c.if-not-operator_covered.true))

pub returns-else-not-operator_covered : goal.returns-else-not-operator_covered
returns-else-not-operator_covered c rows sums =
    sym (c.loop-number.invariant.3 rows sums
    ∙ every_next _ _ 0 _ (omega arith) (sym (c.operator_covered.ensures rows sums) ∙ c.if-not-operator_covered.false)
    ∙ every_done _ 0 _ (omega arith))

pub returns : goal.returns
returns c rows sums = sym (c.loop-number.invariant.3 rows sums ∙ every_done _ _ _ (omega arith))
