-- The kind stands behind the map where its bit is set, and is 0 where it is not.
use mathlib.Core.Path.{sym, ◌∙◌}
use native.Mathlib.Omega.{arith}
use borrow.Author.Tests.{ne_eqb}
use Rattle.rules.specs.Requests.{map_of}
use Rattle.rules.proofs.Records.Fields.{field_in_absent}
use Rattle.records.proofs.ReadingLaws.{kind_there, kind_short}
use Rattle.records.proofs.reader.is_of_kind.Goals as goal

pub returns-then-bytes-lt3 : goal.returns-then-bytes-lt3
returns-then-bytes-lt3 c =
    rw (kind_short c.args.bytes.now c.if-bytes-lt3.true) (sym (ne_eqb 0 c.args.kind (λ e. omega (arith, c.requires))))

pub returns-then-has_field : goal.returns-then-has_field
unfolding map_of
returns-then-has_field c =
    let given = rw c.get.ensures at (sym c.has_field.ensures ∙ c.if-has_field.true) in
    rw (kind_there c.args.bytes.now given, c.get-then-has_field.ensures)

pub returns : goal.returns
unfolding map_of
returns c =
    let given = rw c.get.ensures at (sym c.has_field.ensures ∙ c.if-has_field.false) in
    rw (field_in_absent c.args.bytes.now 0 given) (sym (ne_eqb 0 c.args.kind (λ e. omega (arith, c.requires))))
