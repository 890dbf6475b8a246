-- Entries of one width follow one another, so the entry at that offset is the one of that number.
use mathlib.Core.Path.{refl}
use Rattle.rules.specs.Opening.{estimates_in, price_width}
use Rattle.rules.proofs.Setups.SetupEntries.{entry_by_number}
use Rattle.setup.proofs.entries.estimate.Goals as goal

pub returns : goal.returns
unfolding estimates_in
returns c = entry_by_number price_width _ _ _ _ _ _ _ refl c.requires.1 c.requires.2 c.price_at.ensures
