-- The part that is filled holds as many zeros as it has bytes.
use Rattle.wire.proofs.ZeroLaws.{part_cleared}
use Rattle.wire.proofs.regions.clear_at.Goals as goal

pub returns : goal.returns
returns c = part_cleared _ _ _ _ c.requires (c.fill.ensures.after (λ y same. same))
