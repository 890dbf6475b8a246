-- Bytes of the right shape hold every entry that their counts say, so that their values can be judged; the first value at fault decides.
use mathlib.Core.Path.{sym, ◌∙◌}
use Rattle.rules.proofs.Setups.SetupShape.{shape_of}
use Rattle.setup.proofs.FaultLaws.{shaped, refused_shape, refused_value}
use Rattle.setup.proofs.fault.fault.Goals as goal

pub returns-then-misshapen : goal.returns-then-misshapen
returns-then-misshapen c = sym (refused_shape _ (sym c.misshapen.ensures ∙ c.if-misshapen.true))

pub counts-requires : goal.counts-requires
counts-requires c = (shape_of _ (sym c.misshapen.ensures ∙ c.if-misshapen.false)).long

pub value_fault-requires : goal.value_fault-requires
value_fault-requires c = shaped _ (sym c.misshapen.ensures ∙ c.if-misshapen.false) c.counts.ensures

pub returns : goal.returns
returns c = c.value_fault.ensures ∙ sym (refused_value _ (sym c.misshapen.ensures ∙ c.if-misshapen.false))
