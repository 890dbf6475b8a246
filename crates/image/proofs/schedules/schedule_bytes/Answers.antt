-- Each field is put at its place, one after the other, over as many bytes.
use mathlib.Core.Path.{refl}
use lib.ListN.{replicate}
use Rattle.wire.proofs.PackLaws.{put_pack}
use Rattle.image.specs.Layout.{schedule_widths, schedule_width}
use Rattle.image.specs.Image.{schedule_bytes}
use Rattle.image.proofs.schedules.schedule_bytes.Goals as goal

pub returns : goal.returns
unfolding schedule_bytes
returns c = put_pack schedule_widths _ (replicate schedule_width 0) refl refl (cc)
