-- The checks stand in the order of the bits of the map.
use mathlib.Core.Path.{◌∙◌}
use native.Mathlib.Omega.{arith}
use Rattle.rules.specs.Basics.{counting, bit}
use Rattle.rules.specs.Requests.{in_range}
use Rattle.rules.proofs.Checks.PassedOn.{passed_on}
use Rattle.records.proofs.RangeLaws.{ranges_of, test_fails, test_holds, test_says}
use Rattle.records.proofs.ranges.guarantee_fields.Goals as goal

pub returns-in_err-field : goal.returns-in_err-field
unfolding counting bit in_range
returns-in_err-field c =
    let out = test_holds _ _ c.field.ensures c.in_err-field.was in
    passed_on _ c.from_residual.ensures.1 ∙ simp (ranges_of c.args.n c.args.q 0x0601 c.requires (omega arith), out.0, out.1)

pub returns : goal.returns
unfolding counting bit in_range
returns c =
    let in1 = test_fails _ _ c.field.ensures c.in_ok-field.was in
    simp (ranges_of c.args.n c.args.q 0x0601 c.requires (omega arith), in1, c.field-2.ensures, test_says)
