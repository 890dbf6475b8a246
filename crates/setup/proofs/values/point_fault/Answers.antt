-- The values are judged in the order of their offsets, the kind against that of the point's account.
use mathlib.Core.Path.{◌∙◌, sym, ap}
use Rattle.rules.specs.declared.Counts.{Counts}
use Rattle.rules.proofs.Setups.SetupEntries.{length_accounts}
use Rattle.rules.proofs.Checks.PassedOn.{passed_on}
use Rattle.rules.specs.Opening.{point_values}
use Rattle.setup.proofs.FaultLaws.{part_clear, part_fails}
use Rattle.setup.proofs.values.point_fault.Goals as goal

pub returns-in_err-in_range : goal.returns-in_err-in_range
unfolding point_values
returns-in_err-in_range c =
    let count = ap (λ (n : Counts). n.accounts) c.requires.0.counted in
    passed_on _ c.from_residual.ensures.1 ∙ (rw (length_accounts, ← count) (part_fails _ _ c.in_range.ensures c.in_err-in_range.was))

pub returns-in_err-in_range-2 : goal.returns-in_err-in_range-2
unfolding point_values
returns-in_err-in_range-2 c =
    let count = ap (λ (n : Counts). n.accounts) c.requires.0.counted in
    let own = c.kind_of-own.ensures in
    passed_on _ c.from_residual-in_err-in_range-2.ensures.1
    ∙ (rw (length_accounts, ← count)
    (part_fails _ _ (rw own at c.in_range-2.ensures) c.in_err-in_range-2.was
    ∙ sym (part_clear _ _ c.in_range.ensures c.in_ok-in_range.was)))

pub returns-in_err-in_range-3 : goal.returns-in_err-in_range-3
unfolding point_values
returns-in_err-in_range-3 c =
    let count = ap (λ (n : Counts). n.accounts) c.requires.0.counted in
    let own = c.kind_of-own.ensures in
    passed_on _ c.from_residual-in_err-in_range-3.ensures.1
    ∙ (rw (length_accounts, ← count)
    (part_fails _ _ c.in_range-3.ensures c.in_err-in_range-3.was
    ∙ sym (part_clear _ _ (rw own at c.in_range-2.ensures) c.in_ok-in_range-2.was)
    ∙ sym (part_clear _ _ c.in_range.ensures c.in_ok-in_range.was)))

pub returns : goal.returns
unfolding point_values
returns c =
    let count = ap (λ (n : Counts). n.accounts) c.requires.0.counted in
    let own = c.kind_of-own.ensures in
    rw (length_accounts, ← count)
    (c.amounts_fault.ensures
    ∙ sym (part_clear _ _ c.in_range-3.ensures c.in_ok-in_range-3.was)
    ∙ sym (part_clear _ _ (rw own at c.in_range-2.ensures) c.in_ok-in_range-2.was)
    ∙ sym (part_clear _ _ c.in_range.ensures c.in_ok-in_range.was))
