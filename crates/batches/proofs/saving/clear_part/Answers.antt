-- The part is cleared up to the end of its rows and from its net positions on; between them it is zero already.
use Rattle.batches.proofs.BatchLaws.{part_cleared_lem}
use Rattle.batches.proofs.saving.clear_part.Goals as goal

pub returns : goal.returns
returns c =
    part_cleared_lem _ _ _ _ c.requires.rows_end.0 _ c.requires.has_part c.requires.rows_end.1 c.clear_at.ensures c.clear_at-2.ensures
