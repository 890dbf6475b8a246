use Rattle.std.proofs.Common.{ℕ, ◌*◌, sym, ap, ◌∙◌}
use Rattle.std.specs.Prelude.{ltb}
use Rattle.rules.specs.Basics.{any_passes, entries}
use Rattle.rules.specs.Limits.{most_price}
use Rattle.rules.specs.Opening.{price_in, price_width}
use Rattle.rules.specs.Settlement.{prices_in}
use Rattle.day_test.proofs.hours.show_priced.Goals as goal

-- src/hours.rt: the price table has its length, and no price in it is too high
pub show_valued-requires : goal.show_valued-requires
unfolding prices_in
show_valued-requires g c =
    let n = c.price_count-n.ensures.0 in
    record {
      is_sound = c.requires;
      whole = c.if-prices-n.false ∙ ap (λ (k : ℕ). price_width * k) n;
      prices_low =
          ap (λ (k : ℕ). any_passes (λ p. ltb most_price p.0) (entries price_width price_in k c.args.prices.now)) (sym n)
          ∙ sym c.too_high.ensures
          ∙ c.if-too_high.false;
    }
