-- The decimal text of the number is put first, and the byte where it ends.
use native.Mathlib.Omega.{arith}
use Rattle.items.proofs.PutsLaws.{puts_then}
use Rattle.items.proofs.LineBuffer.put_number.Goals as goal

pub returns-clause-put : goal.returns-clause-put
returns-clause-put c =
    puts_then (omega arith) c.put_decimal.ensures.put c.put_bytes.ensures
