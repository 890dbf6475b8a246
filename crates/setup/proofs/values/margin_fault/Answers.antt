-- A margin has one value, which is judged at its offset.
use Rattle.rules.specs.Opening.{margin_values}
use Rattle.setup.specs.Faults.{first_fault_from}
use Rattle.setup.proofs.values.margin_fault.Goals as goal

pub returns : goal.returns
unfolding margin_values first_fault_from
returns c = c.in_range.ensures
