-- 34 bytes say a request, which is written; any others are refused.
use mathlib.Core.Path.{refl}
use borrow.Author.Tests.{eq-eqb, ne_eqb}
use Rattle.abi.specs.Fields.{fields_outcome, fields_written}
use Rattle.abi.proofs.exports.write_fields.Goals as goal

pub returns-then-fields-ne-FIELDS_SIZE : goal.returns-then-fields-ne-FIELDS_SIZE
unfolding fields_outcome fields_written
returns-then-fields-ne-FIELDS_SIZE c = record { answer = rw (ne_eqb _ _ c.if-fields-ne-FIELDS_SIZE.true) (refl); filled = rw (ne_eqb _ _ c.if-fields-ne-FIELDS_SIZE.true) (refl) }

pub returns : goal.returns
unfolding fields_outcome fields_written
returns c =
    record { answer = rw (eq-eqb _ _ c.if-fields-ne-FIELDS_SIZE.false, ← c.request_in-request.ensures) (c.write.ensures.answer); filled = rw (eq-eqb _ _ c.if-fields-ne-FIELDS_SIZE.false, ← c.request_in-request.ensures) (c.write.ensures.filled) }
