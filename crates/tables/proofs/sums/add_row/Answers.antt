-- The row's status says to which lanes it is added.
use Rattle.tables.proofs.ShareLaws.{added_idle}
use Rattle.tables.proofs.sums.add_row.Goals as goal

pub returns-else-r-eq-PENDING : goal.returns-else-r-eq-PENDING
returns-else-r-eq-PENDING c = added_idle _ _ c.if-r-eq-PENDING.false c.if-r-eq-CONFIRMED.false
