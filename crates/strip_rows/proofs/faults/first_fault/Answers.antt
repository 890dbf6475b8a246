-- What the check of all numbers comes to is what that of the numbers left comes to.
use Rattle.std.specs.Prelude.{None, Some}
use Prim.Native.Nat.{◌+◌, ◌-◌}
use mathlib.Core.Path.{sym, ap, ◌∙◌}
use native.Mathlib.Omega.{arith}
use borrow.Author.Rules.{rules}
use Rattle.rules.specs.Verdicts.{checked}
use Rattle.rules.proofs.Checks.Clearing.{checked-same}
use Rattle.rules.proofs.Checks.PassedOn.{passed_on}
use Rattle.strip_rows.proofs.Passes.{pass_done, pass_here, pass_next}
use Rattle.strip_rows.proofs.faults.first_fault.Goals as goal

pub loop-i-preserved : goal.loop-i-preserved
loop-i-preserved g c = (
  search rules,
  λ f same. c.loop-i.invariant.1 f same
      ∙ pass_next f (c.args.n - c.loop-i.i) c.loop-i.i (c.args.n - (c.loop-i.i + 1)) (omega arith)
      (checked-same _ None (sym (same c.loop-i.i (omega arith) _ c.check.ensures) ∙ c.in_ok-check.was)),
)

pub returns : goal.returns
returns g c f same = sym (ap checked (c.loop-i.invariant.1 f same ∙ pass_done f _ c.loop-i.i (omega arith)))

pub returns-in_err-check : goal.returns-in_err-check
returns-in_err-check g c f same =
    let here = checked-same _ (Some _) (sym (same c.loop-i.i (omega arith) _ c.check.ensures) ∙ c.in_err-check.was) in
    passed_on _ c.from_residual.ensures.1
    ∙ sym (ap checked (c.loop-i.invariant.1 f same ∙ pass_here f _ c.loop-i.i (c.args.n - (c.loop-i.i + 1)) (omega arith) _ here))
