-- The record is its map and, where that ends, its fields.
use native.Mathlib.Omega.{arith}
use Rattle.rules.proofs.Checks.KindTables.{tables_agree}
use Rattle.records.proofs.WritingLaws.{record_put}
use Rattle.records.proofs.writer.put_record.Goals as goal

pub put_fields-requires : goal.put_fields-requires
put_fields-requires c =
    rw c.wanted_map-wanted.ensures (omega (arith, c.requires.1, c.put.auto.s, (tables_agree c.args.q.kind c.requires.0).ends))

pub returns : goal.returns
returns c =
    rw (c.put_fields.ensures, c.put.ensures) (record_put c.args.q c.args.buffer.now c.wanted_map-wanted.result c.wanted_map-wanted.ensures)
