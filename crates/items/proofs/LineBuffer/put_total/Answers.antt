-- The line is its mark and one figure, which is put where the mark ends.
use native.Mathlib.Omega.{arith}
use Rattle.items.proofs.LineLaws.{sum_put}
use Rattle.items.proofs.LineBuffer.put_total.Goals as goal

pub returns-clause-put : goal.returns-clause-put
returns-clause-put c =
    sum_put (omega arith) _ c.put_bytes.ensures c.put_figure.ensures.put
