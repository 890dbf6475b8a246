-- Entries of one width follow one another, so the entry at that offset is the one of that number.
use mathlib.Core.Path.{◌∙◌, ap}
use Rattle.rules.specs.Opening.{operators_in, operators_offset, operator_entry}
use Rattle.rules.proofs.Setups.SetupEntries.{entry_by_number}
use Rattle.setup.proofs.entries.operator.Goals as goal

pub returns : goal.returns
unfolding operators_in
returns c = entry_by_number operator_entry _ _ _ _ _ _ _ (c.operators_offset-from.ensures ∙ ap operators_offset c.counts.ensures) c.requires.1 c.requires.2 c.operator_at.ensures
