-- An estimate without a fault is passed over, and the first with one decides.
use Prim.Native.Nat.{◌-◌}
use mathlib.Core.Path.{◌∙◌, ap}
use lib.ListN.{drop}
use native.Mathlib.Omega.{arith}
use borrow.Author.Rules.{rules}
use Rattle.rules.specs.declared.Counts.{Counts}
use Rattle.rules.specs.Basics.{entries}
use Rattle.rules.specs.Opening.{price_in, estimates_in, estimate_values, values_of, price_width, estimates_offset}
use Rattle.rules.proofs.Checks.PassedOn.{passed_on}
use Rattle.setup.specs.Faults.{first_fault, estimate_faults}
use Rattle.setup.proofs.FaultLaws.{all_left, none_left, first_clear, first_fails}
use Rattle.setup.proofs.fault.estimate_faults.Goals as goal

pub loop-hour-init : goal.loop-hour-init
unfolding estimate_faults estimates_in
loop-hour-init c =
    all_left 5 c.args.n.hours (omega arith) (omega arith) (search rules)
    (ap (λ (n : Counts). first_fault (values_of price_width estimate_values estimates_offset (entries price_width price_in n.hours (drop estimates_offset c.args.setup.now)))) c.requires.counted)

pub returns-in_err-estimate_fault : goal.returns-in_err-estimate_fault
returns-in_err-estimate_fault c =
    passed_on _ c.from_residual.ensures.1
    ∙ first_fails c.loop-hour.invariant (c.args.n.hours - c.loop-hour.hour - 1) (omega arith) c.price_at.ensures c.estimate_fault.ensures c.in_err-estimate_fault.was

pub loop-hour-preserved : goal.loop-hour-preserved
loop-hour-preserved c =
    first_clear c.loop-hour.invariant (c.args.n.hours - c.loop-hour.hour - 1) (omega arith) c.price_at.ensures c.estimate_fault.ensures (omega arith) (omega arith) c.in_ok-estimate_fault.was

pub returns : goal.returns
returns c = none_left c.loop-hour.invariant (omega arith)
