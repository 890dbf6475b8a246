-- The count is the byte before the rows.
use mathlib.Core.Path.{◌∙◌}
use Rattle.wire.proofs.NumberLaws.{number_at_one}
use Rattle.strip_rows.proofs.record.row_count.Goals as goal

pub returns : goal.returns
returns c = c.get.ensures ∙ number_at_one _ _
