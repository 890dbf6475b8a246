-- It is the element at the cell of that account hour in that lane.
use Rattle.tables.proofs.sums.sum_at.Goals as goal

pub returns : goal.returns
returns c = rw c.cell-k.ensures.is
