-- The text is the lines of the balances and then the line of their sum.
use native.Mathlib.Omega.{arith}
use Rattle.items.proofs.ListLaws.{balances_put}
use Rattle.items.proofs.LineBuffer.put_balances.Goals as goal

pub returns-clause-put : goal.returns-clause-put
returns-clause-put c =
    balances_put _ _ _ (omega arith) c.put_balance_lines.ensures.put c.put_total.ensures.put c.total_of.ensures
