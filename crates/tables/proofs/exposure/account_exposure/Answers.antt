-- After each hour, the sum so far and the exposure of the hours that are left together are that of all hours.
use Prim.Native.Nat.{ℕ, ◌+◌}
use mathlib.Core.Path.{◌∙◌, sym, ap}
use native.Mathlib.Omega.{arith}
use borrow.Author.Rules.{rules}
use Rattle.rules.proofs.Basics.CountingLaws.{sum_next, sum_done}
use Rattle.tables.proofs.ExposureLaws.{hour_exposure_read, exposure_by_hour, estimate_small}
use Rattle.tables.proofs.exposure.account_exposure.Goals as goal

pub hour_exposure-requires : goal.hour_exposure-requires
hour_exposure-requires c =
    rw c.estimate-price.ensures (estimate_small c.args.book.now c.loop-hour.hour c.requires.1 (omega arith) (omega arith))

pub loop-hour-preserved : goal.loop-hour-preserved
loop-hour-preserved c = (
  c.loop-hour.invariant.0,
  search rules,
  search rules,
  search rules,
  λ rows sums.
      sum_next _ _ _ _ _ _ _ (omega arith) (c.add-sum.ensures ∙ ap (λ (x : ℕ). c.loop-hour.sum.0 + x) (hour_exposure_read _ rows _ _ _ _ c.estimate-price.ensures (c.account_hour-x.ensures rows sums) c.hour_exposure.ensures.0)) (c.loop-hour.invariant.4 rows sums),
)

pub returns-clause-meaning : goal.returns-clause-meaning
returns-clause-meaning c rows sums =
    sum_done _ _ _ _ _ (omega arith) (c.loop-hour.invariant.4 rows sums) ∙ sym (exposure_by_hour _ rows _)

pub returns-2-clause-meaning : goal.returns-2-clause-meaning
returns-2-clause-meaning c rows sums =
    sum_done _ 0 _ _ _ (omega arith) (sum_next _ _ 0 _ _ _ _ (omega arith) (c.add-sum.ensures ∙ ap (λ (x : ℕ). c.loop-hour.sum.0 + x) (hour_exposure_read _ rows _ _ _ _ c.estimate-price.ensures (c.account_hour-x.ensures rows sums) c.hour_exposure.ensures.0)) (c.loop-hour.invariant.4 rows sums))
    ∙ sym (exposure_by_hour _ rows _)
