-- The three numbers are those of the definition.
use Rattle.tables.specs.Sums.{net_stored}
use Rattle.tables.proofs.sums.net_matches.Goals as goal

pub returns : goal.returns
unfolding net_stored
returns c = rw (c.get-stored.ensures, c.place.ensures.is, c.sum_at-bought.ensures, c.sum_at-sold.ensures)
