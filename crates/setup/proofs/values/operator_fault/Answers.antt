-- The two values are judged in the order of their offsets.
use mathlib.Core.Path.{◌∙◌, sym}
use Rattle.rules.specs.Opening.{operator_values}
use Rattle.rules.proofs.Checks.PassedOn.{passed_on}
use Rattle.setup.proofs.FaultLaws.{part_clear, part_fails}
use Rattle.setup.proofs.values.operator_fault.Goals as goal

pub returns-in_err-in_range : goal.returns-in_err-in_range
unfolding operator_values
returns-in_err-in_range c =
    passed_on _ c.from_residual.ensures.1 ∙ part_fails _ _ c.in_range.ensures c.in_err-in_range.was

pub returns : goal.returns
unfolding operator_values
returns c = c.in_range-2.ensures ∙ sym (part_clear _ _ c.in_range.ensures c.in_ok-in_range.was)
