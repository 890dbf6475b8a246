-- Operator and kind are judged in the order of their offsets, and then the margins, which stand side by side.
use mathlib.Core.Path.{◌∙◌, sym, ap}
use native.Mathlib.Omega.{arith}
use Rattle.rules.proofs.Setups.SetupEntries.{account_wide}
use Rattle.rules.proofs.Checks.PassedOn.{passed_on}
use Rattle.setup.specs.Faults.{first_fault, margin_faults}
use Rattle.setup.proofs.FaultLaws.{account_judged, part_clear, part_fails}
use Rattle.setup.proofs.values.account_fault.Goals as goal

pub get-operator-requires : goal.get-operator-requires
get-operator-requires c = omega (arith, c.requires.1, account_wide c.args.n)

pub get-kind-requires : goal.get-kind-requires
get-kind-requires c = omega (arith, c.requires.1, account_wide c.args.n)

pub in_range-requires : goal.in_range-requires
in_range-requires c = omega (arith, c.requires.1, c.requires.0.short, account_wide c.args.n)

pub in_range-requires-2 : goal.in_range-requires-2
in_range-requires-2 c = omega (arith, c.requires.1, c.requires.0.short, account_wide c.args.n)

pub margin_faults-requires : goal.margin_faults-requires
margin_faults-requires c =
    (omega (arith, c.requires.1, account_wide c.args.n), c.requires.0.short)

pub returns-in_err-in_range : goal.returns-in_err-in_range
returns-in_err-in_range c =
    passed_on _ c.from_residual.ensures.1
    ∙ part_fails _ _ (rw c.get-operator.ensures at c.in_range.ensures) c.in_err-in_range.was
    ∙ sym (ap first_fault (account_judged _ _ _))

pub returns-in_err-in_range-2 : goal.returns-in_err-in_range-2
returns-in_err-in_range-2 c =
    passed_on _ c.from_residual-in_err-in_range-2.ensures.1
    ∙ part_fails _ _ (rw c.get-kind.ensures at c.in_range-2.ensures) c.in_err-in_range-2.was
    ∙ sym (part_clear _ _ (rw c.get-operator.ensures at c.in_range.ensures) c.in_ok-in_range.was)
    ∙ sym (ap first_fault (account_judged _ _ _))

pub returns : goal.returns
unfolding margin_faults
returns c =
    c.margin_faults.ensures
    ∙ sym (part_clear _ _ (rw c.get-kind.ensures at c.in_range-2.ensures) c.in_ok-in_range-2.was)
    ∙ sym (part_clear _ _ (rw c.get-operator.ensures at c.in_range.ensures) c.in_ok-in_range.was)
    ∙ sym (ap first_fault (account_judged _ _ _))
