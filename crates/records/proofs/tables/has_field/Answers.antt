-- A shift is a division by a power of two.
use mathlib.Core.Path.{refl}
use Rattle.rules.specs.Basics.{bit}
use Rattle.records.proofs.tables.has_field.Goals as goal

pub returns : goal.returns
unfolding bit
returns c = refl
