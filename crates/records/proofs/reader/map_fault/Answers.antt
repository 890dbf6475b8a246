-- The map is compared with the table's, and neither a map of the table nor one that is readable has a bit past the fields.
use mathlib.Core.Path.{sym, ap}
use native.Mathlib.Omega.{arith}
use Rattle.rules.specs.Verdicts.{checked}
use Rattle.rules.specs.Requests.{map_of}
use Rattle.rules.proofs.Checks.Passed.{readable}
use Rattle.records.proofs.ReadingLaws.{map_differs, map_agrees}
use Rattle.records.proofs.reader.map_fault.Goals as goal

pub get-given-requires : goal.get-given-requires
get-given-requires c = omega (arith, (readable c.args.bytes.now c.requires.0).0)

pub fields_more-unwanted-requires : goal.fields_more-unwanted-requires
unfolding map_of
fields_more-unwanted-requires c =
    omega (arith, c.get-given.ensures, (readable c.args.bytes.now c.requires.0).2)

pub returns-then-given-wanted : goal.returns-then-given-wanted
unfolding map_of
returns-then-given-wanted c =
    rw (c.fields_more-missing.ensures, c.fields_more-unwanted.ensures)
    (sym (ap checked (map_differs c.args.kind c.args.bytes.now c.get-given.ensures c.wanted_map-wanted.ensures c.if-given-wanted.true)))

pub returns : goal.returns
unfolding map_of
returns c =
    sym (ap checked (map_agrees c.args.kind c.args.bytes.now c.get-given.ensures c.wanted_map-wanted.ensures c.if-given-wanted.false))
