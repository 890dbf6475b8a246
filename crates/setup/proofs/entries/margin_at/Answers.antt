-- The entry is one number.
use Rattle.rules.proofs.Setups.SetupEntries.{margin_at}
use Rattle.setup.proofs.entries.margin_at.Goals as goal

pub returns : goal.returns
returns c = rw margin_at (cc)
