-- The entry is one number.
use Rattle.rules.proofs.Setups.SetupEntries.{price_at}
use Rattle.setup.proofs.entries.price_at.Goals as goal

pub returns : goal.returns
returns c = rw price_at (cc)
