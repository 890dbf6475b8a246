-- After each account, the sum so far and what the accounts that are left add together are the operator's exposure.
use Prim.Native.Nat.{ℕ, ◌+◌}
use mathlib.Core.Path.{◌∙◌, sym, ap}
use native.Mathlib.Omega.{arith}
use borrow.Author.Rules.{rules}
use Rattle.rules.proofs.Basics.CountingLaws.{sum_next, sum_done}
use Rattle.tables.proofs.ExposureLaws.{exposure_by_account}
use Rattle.tables.proofs.exposure.exposure_of.Goals as goal

pub loop-number-preserved : goal.loop-number-preserved
loop-number-preserved c = (
  c.loop-number.invariant.0,
  search rules,
  search rules,
  search rules,
  λ rows sums. sum_next _ _ _ _ _ _ _ (omega arith) (c.add-sum.ensures ∙ ap (λ (x : ℕ). c.loop-number.sum.0 + x) (c.exposure_share.ensures.meaning rows sums)) (c.loop-number.invariant.4 rows sums),
)

pub returns : goal.returns
returns c rows sums =
    sum_done _ _ _ _ _ (omega arith) (c.loop-number.invariant.4 rows sums) ∙ sym (exposure_by_account _ rows _)

pub returns-2 : goal.returns-2
returns-2 c rows sums =
    sum_done _ 0 _ _ _ (omega arith) (sum_next _ _ 0 _ _ _ _ (omega arith) (c.add-sum.ensures ∙ ap (λ (x : ℕ). c.loop-number.sum.0 + x) (c.exposure_share.ensures.meaning rows sums)) (c.loop-number.invariant.4 rows sums))
    ∙ sym (exposure_by_account _ rows _)
