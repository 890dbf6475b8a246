-- Each field is read from its own bytes of the entry.
use Rattle.rules.proofs.Setups.SetupEntries.{operator_at}
use Rattle.setup.proofs.entries.operator_at.Goals as goal

pub returns : goal.returns
returns c = rw operator_at (cc)
