-- The sign decides which of the two is taken from the other.
use native.Mathlib.Omega.{arith}
use Rattle.items.proofs.DecimalLaws.{figure_plus, figure_minus}
use Rattle.items.proofs.PutsLaws.{puts_then}
use Rattle.items.proofs.LineBuffer.put_figure.Goals as goal

pub returns-then-lost-gained-clause-put : goal.returns-then-lost-gained-clause-put
returns-then-lost-gained-clause-put c =
    rw (figure_plus _ _ c.if-lost-gained.true) c.put_number.ensures.put

pub returns-else-lost-gained-clause-put : goal.returns-else-lost-gained-clause-put
returns-else-lost-gained-clause-put c =
    rw (figure_minus _ _ c.if-lost-gained.false) (puts_then (omega arith) c.put_bytes.ensures c.put_number-else-lost-gained.ensures.put)
