-- The first of the four lists that has a fault decides.
use mathlib.Core.Path.{◌∙◌, sym, ap}
use Rattle.rules.proofs.Checks.PassedOn.{passed_on}
use Rattle.setup.specs.Faults.{first_fault, estimate_faults, operator_faults, account_faults, point_faults}
use Rattle.setup.proofs.FaultLaws.{list_by_list, part_clear, part_fails}
use Rattle.setup.proofs.fault.value_fault.Goals as goal

pub returns-in_err-estimate_faults : goal.returns-in_err-estimate_faults
unfolding estimate_faults
returns-in_err-estimate_faults c =
    passed_on _ c.from_residual.ensures.1
    ∙ part_fails _ _ c.estimate_faults.ensures c.in_err-estimate_faults.was
    ∙ sym (ap first_fault (list_by_list c.args.setup.now))

pub returns-in_err-operator_faults : goal.returns-in_err-operator_faults
unfolding estimate_faults operator_faults
returns-in_err-operator_faults c =
    passed_on _ c.from_residual-in_err-operator_faults.ensures.1
    ∙ part_fails _ _ c.operator_faults.ensures c.in_err-operator_faults.was
    ∙ sym (part_clear _ _ c.estimate_faults.ensures c.in_ok-estimate_faults.was)
    ∙ sym (ap first_fault (list_by_list c.args.setup.now))

pub returns-in_err-account_faults : goal.returns-in_err-account_faults
unfolding estimate_faults operator_faults account_faults
returns-in_err-account_faults c =
    passed_on _ c.from_residual-in_err-account_faults.ensures.1
    ∙ part_fails _ _ c.account_faults.ensures c.in_err-account_faults.was
    ∙ sym (part_clear _ _ c.operator_faults.ensures c.in_ok-operator_faults.was)
    ∙ sym (part_clear _ _ c.estimate_faults.ensures c.in_ok-estimate_faults.was)
    ∙ sym (ap first_fault (list_by_list c.args.setup.now))

pub returns : goal.returns
unfolding estimate_faults operator_faults account_faults point_faults
returns c =
    c.point_faults.ensures
    ∙ sym (part_clear _ _ c.account_faults.ensures c.in_ok-account_faults.was)
    ∙ sym (part_clear _ _ c.operator_faults.ensures c.in_ok-operator_faults.was)
    ∙ sym (part_clear _ _ c.estimate_faults.ensures c.in_ok-estimate_faults.was)
    ∙ sym (ap first_fault (list_by_list c.args.setup.now))
