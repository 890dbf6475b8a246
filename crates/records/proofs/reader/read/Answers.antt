-- Refusals 2 and 3 come first; the rest is read by its kind.
use mathlib.Core.Path.{◌∙◌, sym}
use Rattle.rules.proofs.Checks.Passed.{readable}
use Rattle.records.proofs.ReadingLaws.{kind_third, reads_nothing, reads_no_kind}
use Rattle.records.proofs.reader.read.Goals as goal

pub returns-then-no_map : goal.returns-then-no_map
returns-then-no_map c = reads_nothing c.args.bytes.now (sym c.no_map.ensures ∙ c.if-no_map.true)

pub get-kind-requires : goal.get-kind-requires
get-kind-requires c = (readable c.args.bytes.now (sym c.no_map.ensures ∙ c.if-no_map.false)).0

pub returns-then-not-is_single : goal.returns-then-not-is_single
returns-then-not-is_single c =
    let r = sym c.no_map.ensures ∙ c.if-no_map.false in
    reads_no_kind c.args.bytes.now c.get-kind.result r (c.get-kind.ensures ∙ sym (kind_third c.args.bytes.now r)) (sym c.is_single.ensures ∙ c.if-not-is_single.true)

pub read_as-requires : goal.read_as-requires
read_as-requires c =
    let r = sym c.no_map.ensures ∙ c.if-no_map.false in
    (r, c.get-kind.ensures ∙ sym (kind_third c.args.bytes.now r), sym c.is_single.ensures ∙ c.if-not-is_single.false)
