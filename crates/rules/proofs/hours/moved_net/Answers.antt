-- What the row moves for its buyer and for its seller is added.
use mathlib.Core.Path.{◌∙◌}
use Rattle.rules.proofs.hours.moved_net.Goals as goal

pub returns : goal.returns
returns c =
    record { bought = c.add.ensures ∙ rw (c.moved-bought.ensures.meaning, c.buyer-buyer.ensures); sold = c.add-2.ensures ∙ rw (c.moved-sold.ensures.meaning, c.seller-seller.ensures) }
