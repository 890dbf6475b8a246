-- An estimate has one value, which is judged at its offset.
use Rattle.rules.specs.Opening.{estimate_values}
use Rattle.setup.specs.Faults.{first_fault_from}
use Rattle.setup.proofs.values.estimate_fault.Goals as goal

pub returns : goal.returns
unfolding estimate_values first_fault_from
returns c = c.in_range.ensures
