-- An accepted set-up fits its room, and what is then written, write by write, is the image of the fresh book.
use mathlib.Core.Path.{refl}
use native.Mathlib.Omega.{arith}
use Rattle.wire.proofs.NumberLaws.{bytes_known}
use Rattle.book.proofs.OpeningLaws.{openable, written_fresh}
use Rattle.book.proofs.opening.fill.Goals as goal

pub counts-n-requires : goal.counts-n-requires
counts-n-requires c =
    (openable _ (bytes_known _ c.type_inv.setup) c.requires.0 refl).long

pub put_setup-requires : goal.put_setup-requires
put_setup-requires c =
    let o = openable _ (bytes_known _ c.type_inv.setup) c.requires.0 c.counts-n.ensures in
    (omega (arith, c.operators_offset-from.ensures), omega arith)

pub put_guarantees-requires : goal.put_guarantees-requires
put_guarantees-requires c =
    let o = openable _ (bytes_known _ c.type_inv.setup) c.requires.0 c.counts-n.ensures in
    (omega (arith, c.operators_offset-from.ensures), omega arith)

pub returns : goal.returns
returns c =
    written_fresh _ (bytes_known _ c.type_inv.setup) c.requires.0 c.counts-n.ensures c.operators_offset-from.ensures c.requires.1
    c.put_setup.ensures c.put.ensures c.put_guarantees.ensures
