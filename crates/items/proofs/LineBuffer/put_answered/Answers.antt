-- The line is four numbers, and each is put where the one before it ends.
use native.Mathlib.Omega.{arith}
use Rattle.items.proofs.LineLaws.{answered_put}
use Rattle.items.proofs.LineBuffer.put_answered.Goals as goal

pub returns-clause-put : goal.returns-clause-put
returns-clause-put c =
    answered_put (omega arith) _ _ _ _ c.put_number.ensures.put c.put_number-2.ensures.put c.put_number-3.ensures.put c.put_number-4.ensures.put
