-- The guarantee in force is read, and the test is made with it.
use Rattle.std.proofs.Common.{◌∙◌}
use Rattle.registration.proofs.cover.covered_in_force.Goals as goal

pub returns : goal.returns
returns c = c.covered_by.ensures ∙ rw c.guarantee_in_force-guarantee.ensures.meaning
