-- Each field is read from its own bytes of the entry.
use Rattle.rules.proofs.Setups.SetupEntries.{point_at}
use Rattle.setup.proofs.entries.point_at.Goals as goal

pub returns : goal.returns
returns c = rw point_at (cc)
