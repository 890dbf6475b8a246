-- Two rows have the same key only where both are pending and alike, so no key repeats exactly where no two pending rows are alike.
use mathlib.Core.Path.{◌∙◌}
use Rattle.wire.proofs.NumberLaws.{bytes_known}
use Rattle.audit.proofs.TwinLaws.{keys_apart_rows}
use Rattle.audit.proofs.twins.no_twins.Goals as goal

pub returns : goal.returns
returns c =
    c.apart.ensures ∙ keys_apart_rows (bytes_known c.args.s.now c.type_inv.s) c.args.at c.args.n _ c.fill.ensures
