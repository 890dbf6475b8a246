-- The entries before that of the hour are the sums of the prices up to them.
use Prim.Native.Nat.{ℕ, ◌+◌, ◌-◌}
use mathlib.Core.Path.{ap, ◌∙◌}
use native.Mathlib.Omega.{arith}
use lib.ListN.{get_or}
use Rattle.units.specs.declared.CentsPerMwh.{CentsPerMwh}
use Rattle.rules.specs.declared.Counts.{Counts}
use Rattle.image.specs.Valid.{book_in}
use Rattle.book.proofs.StateLaws.{book_length, book_is_sound}
use Rattle.book.proofs.WorthParts.{summed_first, summed_next, summed_done, hours_in, prices_most, cheap_in}
use Rattle.book.proofs.worth.fill_prices.Goals as goal

pub counts-n-requires : goal.counts-n-requires
counts-n-requires c = omega (arith, book_length _ c.requires.1)

pub loop-hour-init : goal.loop-hour-init
loop-hour-init c =
    let hours = ap (λ (n : Counts). n.hours) c.counts-n.ensures ∙ hours_in _ c.requires.1 in
    (hours, omega (arith, hours, (book_is_sound _ c.requires.1).setup_sound.hours_high), omega arith, omega arith, summed_first _ c.args.sums.now c.requires.0)

pub overflow_add-sums : goal.overflow_add-sums
overflow_add-sums c =
    let most = prices_most (book_in c.args.book.now).setup (cheap_in _ c.requires.1) (c.loop-hour.hour - 1) in
    omega (arith, c.loop-hour.invariant.4.sum (c.loop-hour.hour - 1) (omega arith), most, c.price-price.ensures.bounded)

pub loop-hour-preserved : goal.loop-hour-preserved
loop-hour-preserved c =
    let price = ap (λ (p : CentsPerMwh). p.0) c.price-price.ensures.meaning in (
      c.loop-hour.invariant.0,
      c.loop-hour.invariant.1,
      omega arith,
      omega arith,
      summed_next _ _ _ _ c.loop-hour.invariant.2 (omega arith) (ap (λ (x : ℕ). get_or c.loop-hour.sums (c.loop-hour.hour - 1) 0 + x) price) c.loop-hour.invariant.4,
    )

pub returns-2 : goal.returns-2
returns-2 c =
    let price = ap (λ (p : CentsPerMwh). p.0) c.price-price.ensures.meaning in
    summed_done _ _ (c.loop-hour.hour + 1) (omega (arith, c.loop-hour.invariant.0)) (summed_next _ _ _ _ c.loop-hour.invariant.2 (omega arith) (ap (λ (x : ℕ). get_or c.loop-hour.sums (c.loop-hour.hour - 1) 0 + x) price) c.loop-hour.invariant.4)
