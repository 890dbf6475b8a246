-- Each field is put at its place, one after the other, over as many bytes.
use mathlib.Core.Path.{refl}
use lib.ListN.{replicate}
use Rattle.wire.proofs.PackLaws.{put_pack}
use Rattle.image.specs.Layout.{row_widths, row_width}
use Rattle.image.specs.Image.{row_bytes}
use Rattle.image.proofs.rows.row_bytes.Goals as goal

pub returns : goal.returns
unfolding row_bytes
returns c = put_pack row_widths _ (replicate row_width 0) refl refl (cc)
