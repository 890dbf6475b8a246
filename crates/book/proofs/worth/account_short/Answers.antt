-- The sum so far, and what the hours that are left add, make what all hours add.
use Prim.Native.Nat.{ℕ, ◌+◌}
use mathlib.Core.Path.{sym, ap, ◌∙◌}
use native.Mathlib.Omega.{arith}
use Rattle.rules.specs.declared.Counts.{Counts}
use Rattle.rules.proofs.Basics.CountingLaws.{sum_begins, sum_next, sum_done}
use Rattle.book.proofs.StateLaws.{book_length, book_is_sound}
use Rattle.book.proofs.WorthParts.{hours_in}
use Rattle.book.proofs.ShortLaws.{hour_short_read, short_most, short_by_hour}
use Rattle.book.proofs.worth.account_short.Goals as goal

pub counts-n-requires : goal.counts-n-requires
counts-n-requires c = omega (arith, book_length _ c.requires.0)

pub loop-hour-init : goal.loop-hour-init
loop-hour-init c =
    let hours = ap (λ (n : Counts). n.hours) c.counts-n.ensures ∙ hours_in _ c.requires.0 in (
      hours,
      omega (arith, hours, (book_is_sound _ c.requires.0).setup_sound.hours_high),
      omega arith,
      omega arith,
      omega arith,
      sum_begins _ _ _ _ (omega arith),
    )

pub loop-hour-preserved : goal.loop-hour-preserved
loop-hour-preserved c =
    let most = short_most c.short_at-below.result.0 c.price-price.result.0 c.short_at-below.ensures.bounded c.price-price.ensures.bounded in (
      c.loop-hour.invariant.0,
      c.loop-hour.invariant.1,
      omega arith,
      omega arith,
      omega (arith, c.loop-hour.invariant.4, c.add-sum.ensures, c.at.ensures.exact),
      sum_next _ _ _ _ _ _ _ (omega (arith, c.loop-hour.invariant.0)) (c.add-sum.ensures ∙ ap (λ (x : ℕ). c.loop-hour.sum.0 + x) (hour_short_read _ _ _ c.loop-hour.hour _ _ c.short_at-below.ensures.meaning c.price-price.ensures.meaning c.at.ensures.exact)) c.loop-hour.invariant.5,
    )

pub returns-clause-meaning : goal.returns-clause-meaning
returns-clause-meaning c =
    sum_done _ _ _ _ _ (omega (arith, c.loop-hour.invariant.0)) c.loop-hour.invariant.5 ∙ sym (short_by_hour _ _ _)

pub returns-2-clause-meaning : goal.returns-2-clause-meaning
returns-2-clause-meaning c =
    sum_done _ 0 _ _ _ (omega arith) (sum_next _ _ 0 _ _ _ _ (omega (arith, c.loop-hour.invariant.0)) (c.add-sum.ensures ∙ ap (λ (x : ℕ). c.loop-hour.sum.0 + x) (hour_short_read _ _ _ c.loop-hour.hour _ _ c.short_at-below.ensures.meaning c.price-price.ensures.meaning c.at.ensures.exact)) c.loop-hour.invariant.5)
    ∙ sym (short_by_hour _ _ _)
