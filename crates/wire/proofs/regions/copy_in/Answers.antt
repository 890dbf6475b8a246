-- The part of `dst` that is written is as long as `src`, and holds it.
use Rattle.std.proofs.Common.{arith}
use Rattle.wire.proofs.RegionLaws.{part_spliced}
use Rattle.wire.proofs.regions.copy_in.Goals as goal

pub returns : goal.returns
returns c = part_spliced _ _ _ _ _ c.copy_from_slice.ensures.after (omega arith)
