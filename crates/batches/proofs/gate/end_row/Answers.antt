-- A pending row gets the status of a withdrawn one, and any other row is left.
use mathlib.Core.Path.{sym, ◌∙◌}
use native.Mathlib.Omega.{arith}
use Rattle.image.proofs.Writing.Loops.{ended_pending, ended_other}
use Rattle.batches.proofs.gate.end_row.Goals as goal

pub returns-then-get-eq-PENDING : goal.returns-then-get-eq-PENDING
returns-then-get-eq-PENDING c = c.put.ensures ∙ sym (ended_pending _ _ (omega arith) (sym c.get.ensures ∙ c.if-get-eq-PENDING.true))

pub returns-else-get-eq-PENDING : goal.returns-else-get-eq-PENDING
returns-else-get-eq-PENDING c = sym (ended_other _ _ (omega arith) (λ e. c.if-get-eq-PENDING.false (c.get.ensures ∙ e)))
