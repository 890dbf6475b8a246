-- The fewest digits that hold the number are its decimal text, and there are no more than 20 of them.
use mathlib.Core.Path.{◌∙◌}
use Rattle.items.proofs.DecimalLaws.{fewest_decimal}
use Rattle.items.proofs.PutsLaws.{puts_as}
use Rattle.items.proofs.LineBuffer.put_decimal.Goals as goal

pub returns-clause-put : goal.returns-clause-put
returns-clause-put c =
    puts_as _ (c.decimal-k.ensures.digits ∙ fewest_decimal _ _ c.decimal-k.ensures.len) c.put_bytes.ensures
