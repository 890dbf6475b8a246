-- Entries of one width follow one another, so the entry at that offset is the one of that number.
use mathlib.Core.Path.{◌∙◌, ap}
use Rattle.rules.specs.Opening.{points_in, points_offset, point_entry}
use Rattle.rules.proofs.Setups.SetupEntries.{entry_by_number}
use Rattle.setup.proofs.entries.point.Goals as goal

pub returns : goal.returns
unfolding points_in
returns c = entry_by_number point_entry _ _ _ _ _ _ _ (c.points_offset-from.ensures.0 ∙ ap points_offset c.counts.ensures) c.requires.1 c.requires.2 c.point_at.ensures
