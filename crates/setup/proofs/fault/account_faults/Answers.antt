-- An account without a fault is passed over, and the first with one decides.
use Prim.Native.Nat.{ℕ, ◌-◌}
use lib.ListN.{drop}
use mathlib.Core.Path.{◌∙◌, refl}
use native.Mathlib.Omega.{arith}
use Rattle.rules.specs.declared.Counts.{Counts}
use Rattle.rules.specs.Basics.{entries}
use Rattle.rules.specs.Opening.{account_in, accounts_offset, accounts_in, account_values, values_of, account_entry}
use Rattle.rules.proofs.Checks.PassedOn.{passed_on}
use Rattle.setup.specs.Faults.{first_fault, account_faults}
use Rattle.setup.proofs.FaultLaws.{all_left, none_left, first_clear, first_fails, next_account, at_counts}
use Rattle.setup.proofs.fault.account_faults.Goals as goal

pub loop-number-init : goal.loop-number-init
unfolding account_faults accounts_in
loop-number-init c = (
  omega arith,
  omega arith,
  all_left (accounts_offset c.args.n) c.args.n.accounts (omega arith) (omega arith) (omega (arith, c.requires.whole))
      (at_counts (λ (n : Counts) (at : ℕ). first_fault (values_of (account_entry n) (account_values n) at (entries (account_entry n) (account_in n) n.accounts (drop at c.args.setup.now)))) accounts_offset c.requires.counted refl),
)

pub returns-in_err-account_fault : goal.returns-in_err-account_fault
returns-in_err-account_fault c =
    passed_on _ c.from_residual.ensures.1
    ∙ first_fails c.loop-number.invariant.2 (c.args.n.accounts - c.loop-number.number) (omega arith) refl (rw c.account_offset.ensures.0 at c.account_fault.ensures) c.in_err-account_fault.was

pub loop-number-preserved : goal.loop-number-preserved
loop-number-preserved c = (
  omega arith,
  omega arith,
  first_clear c.loop-number.invariant.2 (c.args.n.accounts - c.loop-number.number) (omega arith) refl (rw c.account_offset.ensures.0 at c.account_fault.ensures) (next_account c.args.n _ c.loop-number.invariant.0) (omega arith) c.in_ok-account_fault.was,
)

pub returns : goal.returns
returns c = none_left c.loop-number.invariant.2 (omega arith)

pub returns-in_ok-account_fault : goal.returns-in_ok-account_fault
returns-in_ok-account_fault c =
    none_left (first_clear c.loop-number.invariant.2 0 (omega arith) refl (rw c.account_offset.ensures.0 at c.account_fault.ensures) refl refl c.in_ok-account_fault.was) (omega arith)
