-- The text is the lines of the results and then those of the balances.
use native.Mathlib.Omega.{arith}
use Rattle.items.specs.Figures.{settled_text}
use Rattle.items.proofs.PutsLaws.{puts_then}
use Rattle.items.proofs.LineBuffer.put_settled.Goals as goal

pub returns-clause-put : goal.returns-clause-put
unfolding settled_text
returns-clause-put c =
    puts_then (omega arith) c.put_results.ensures.put c.put_balances.ensures.put
