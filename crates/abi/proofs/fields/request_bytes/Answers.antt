-- Each field is put at its place, one after the other, over as many bytes.
use mathlib.Core.Path.{refl}
use lib.ListN.{replicate}
use Rattle.wire.proofs.PackLaws.{put_pack}
use Rattle.rules.specs.Requests.{widths}
use Rattle.abi.specs.Fields.{fields_size, request_bytes}
use Rattle.abi.proofs.fields.request_bytes.Goals as goal

pub returns : goal.returns
unfolding request_bytes
returns c =
    put_pack widths _ (replicate fields_size 0) refl refl
    (rw (c.put-13.ensures, c.put-12.ensures, c.put-11.ensures, c.put-10.ensures, c.put-9.ensures, c.put-8.ensures, c.put-7.ensures, c.put-6.ensures, c.put-5.ensures, c.put-4.ensures, c.put-3.ensures, c.put-2.ensures, c.put.ensures))
