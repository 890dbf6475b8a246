-- The terms are compared by `same_terms`, and the status rule is the definition's.
use Rattle.audit.proofs.saved.row_follows.Goals as goal

pub returns : goal.returns
returns c = rw (← c.same_terms.ensures)
