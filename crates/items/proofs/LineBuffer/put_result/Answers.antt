-- The line is its mark and two figures, and each is put where the one before it ends.
use native.Mathlib.Omega.{arith}
use Rattle.items.proofs.LineLaws.{result_put}
use Rattle.items.proofs.LineBuffer.put_result.Goals as goal

pub returns-clause-put : goal.returns-clause-put
returns-clause-put c =
    result_put (omega arith) _ _ c.put_bytes.ensures c.put_number.ensures.put c.put_number-2.ensures.put
