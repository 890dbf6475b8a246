-- Each number inside the row's bytes is that number of the whole.
use Rattle.image.proofs.Reading.RowBytes.{row_at}
use Rattle.image.proofs.rows.row_at.Goals as goal

pub returns : goal.returns
returns c = rw row_at (cc)
