-- A long position is its energy, and a short one minus its energy in two's complement.
use borrow.Author.Rules.{rules}
use Rattle.wire.specs.Numbers.{signed}
use Rattle.wire.proofs.NumberLaws.{minus_signed}
use Rattle.abi.proofs.lending.position_word.Goals as goal

pub returns-in-Long : goal.returns-in-Long
unfolding signed
returns-in-Long c = rw c.in-Long.is

pub returns-in-Short : goal.returns-in-Short
returns-in-Short c = rw (c.in-Short.is, c.minus.ensures) (minus_signed 8 _ (search rules))
