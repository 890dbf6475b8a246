-- The cell lies within the table.
use Rattle.book.proofs.waits.wait_at.Goals as goal

pub returns : goal.returns
returns c = rw c.wait_cell-k.ensures
