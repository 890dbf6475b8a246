-- The bytes of the number stand in the part that is written.
use Rattle.std.proofs.Common.{arith}
use Rattle.std.proofs.lemmas.Slice.{put_mid-paste}
use Rattle.wire.specs.Regions.{splice, pasted}
use Rattle.wire.proofs.NumberLaws.{length-le}
use Rattle.wire.proofs.numbers.put.Goals as goal

pub returns : goal.returns
unfolding splice pasted
returns g c =
    let long = length-le g.W.Word.WIDTH (g.W.Word.value c.args.v) in
    put_mid-paste _ _ _ _ _ _ c.put_into.ensures (omega (arith, long, c.WIDTH.ensures)) (omega arith)
