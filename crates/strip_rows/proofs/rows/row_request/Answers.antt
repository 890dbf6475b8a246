-- With the map of a register each field stands at a fixed place.
use Rattle.strip_rows.proofs.RowLaws.{register_says}
use Rattle.strip_rows.proofs.rows.row_request.Goals as goal

pub returns : goal.returns
returns c = rw (register_says _ c.requires.1.mapped) (cc)
