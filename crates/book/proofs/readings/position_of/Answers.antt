-- Below 2^31 the number is the position, and from there on 2^32 less the number is how far it lies below zero.
use Prim.Native.Nat.{ℕ}
use mathlib.Core.Path.{ap}
use native.Mathlib.Omega.{arith}
use borrow.Author.Tests.{lt-ltb, le-ltb}
use Rattle.units.specs.Units.{kwh}
use Rattle.rules.specs.declared.Position.TheVariants.{Short}
use Rattle.book.proofs.readings.position_of.Goals as goal

pub returns-then-stored-lt-HALF_U32 : goal.returns-then-stored-lt-HALF_U32
returns-then-stored-lt-HALF_U32 c = rw (lt-ltb c.args.stored 2147483648 c.if-stored-lt-HALF_U32.true)

pub returns : goal.returns
returns c = rw (le-ltb c.args.stored 2147483648 c.if-stored-lt-HALF_U32.false) (ap (λ (n : ℕ). Short (kwh n)) (omega arith))
