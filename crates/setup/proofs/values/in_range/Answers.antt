-- A value in range is no fault; one out of range is the fault of that value.
use Rattle.std.specs.Prelude.{Ok}
use mathlib.Core.Path.{refl}
use Rattle.setup.specs.Faults.{or_else, first_fault_from}
use Rattle.setup.proofs.FaultLaws.{in_range_lem, out_of_range}
use Rattle.setup.proofs.values.in_range.Goals as goal

pub returns-then-fine : goal.returns-then-fine
unfolding first_fault_from
returns-then-fine c = in_range_lem (Ok tt) _ c.if-fine.true

pub returns : goal.returns
unfolding first_fault_from or_else
returns c = out_of_range (Ok tt) _ c.if-fine.false refl
