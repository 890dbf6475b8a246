-- After i steps the first i bytes of the region are in their place, and what is still to be read is untouched, since the regions are apart.
use Rattle.std.proofs.Common.{arith, length-set, rules}
use Rattle.wire.proofs.RegionLaws.{pasted_none, within_more}
use Rattle.wire.proofs.regions.copy_within.Goals as goal

pub loop-i-init : goal.loop-i-init
loop-i-init c = (search rules, search rules, pasted_none _ _ _)

pub loop-i-preserved : goal.loop-i-preserved
loop-i-preserved c = (search rules, simp length-set (omega arith), within_more _ _ _ _ _ _ c.requires.2 (omega arith) (omega arith) (omega arith) c.loop-i.invariant.2)
