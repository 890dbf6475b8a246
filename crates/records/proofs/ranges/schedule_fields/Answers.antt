-- The checks stand in the order of the bits of the map.
use mathlib.Core.Path.{◌∙◌}
use native.Mathlib.Omega.{arith}
use Rattle.rules.specs.Basics.{counting, bit}
use Rattle.rules.specs.Requests.{in_range}
use Rattle.rules.proofs.Checks.PassedOn.{passed_on}
use Rattle.records.proofs.RangeLaws.{ranges_of, test_fails, test_holds, test_says}
use Rattle.records.proofs.ranges.schedule_fields.Goals as goal

pub returns-in_err-field : goal.returns-in_err-field
unfolding counting bit in_range
returns-in_err-field c =
    let out = test_holds _ _ c.field.ensures c.in_err-field.was in
    passed_on _ c.from_residual.ensures.1 ∙ simp (ranges_of c.args.n c.args.q 0x18B1 c.requires (omega arith), out.0, out.1)

pub returns-in_err-field-2 : goal.returns-in_err-field-2
unfolding counting bit in_range
returns-in_err-field-2 c =
    let in1 = test_fails _ _ c.field.ensures c.in_ok-field.was in
    let out = test_holds _ _ c.field-2.ensures c.in_err-field-2.was in
    passed_on _ c.from_residual-in_err-field-2.ensures.1 ∙ simp (ranges_of c.args.n c.args.q 0x18B1 c.requires (omega arith), in1, out.0, out.1)

pub returns-in_err-field-3 : goal.returns-in_err-field-3
unfolding counting bit in_range
returns-in_err-field-3 c =
    let in1 = test_fails _ _ c.field.ensures c.in_ok-field.was in
    let in2 = test_fails _ _ c.field-2.ensures c.in_ok-field-2.was in
    let out = test_holds _ _ c.field-3.ensures c.in_err-field-3.was in
    passed_on _ c.from_residual-in_err-field-3.ensures.1 ∙ simp (ranges_of c.args.n c.args.q 0x18B1 c.requires (omega arith), in1, in2, out.0, out.1)

pub returns-in_err-field-4 : goal.returns-in_err-field-4
unfolding counting bit in_range
returns-in_err-field-4 c =
    let in1 = test_fails _ _ c.field.ensures c.in_ok-field.was in
    let in2 = test_fails _ _ c.field-2.ensures c.in_ok-field-2.was in
    let in3 = test_fails _ _ c.field-3.ensures c.in_ok-field-3.was in
    let out = test_holds _ _ c.field-4.ensures c.in_err-field-4.was in
    passed_on _ c.from_residual-in_err-field-4.ensures.1 ∙ simp (ranges_of c.args.n c.args.q 0x18B1 c.requires (omega arith), in1, in2, in3, out.0, out.1)

pub returns : goal.returns
unfolding counting bit in_range
returns c =
    let in1 = test_fails _ _ c.field.ensures c.in_ok-field.was in
    let in2 = test_fails _ _ c.field-2.ensures c.in_ok-field-2.was in
    let in3 = test_fails _ _ c.field-3.ensures c.in_ok-field-3.was in
    let in4 = test_fails _ _ c.field-4.ensures c.in_ok-field-4.was in
    simp (ranges_of c.args.n c.args.q 0x18B1 c.requires (omega arith), in1, in2, in3, in4, c.field-5.ensures, test_says)
