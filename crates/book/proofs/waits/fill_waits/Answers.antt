-- What the table holds, and the pending sums of the rows that are left, make the pending sums of all rows; and a twin found so far or
-- among the rows that are left is a twin among all.
use Prim.Native.Nat.{◌+◌, ◌-◌}
use mathlib.Core.Path.{refl}
use native.Mathlib.Omega.{arith}
use borrow.Author.Rules.{rules}
use Rattle.book.proofs.WaitLaws.{length-no_waits, waiting_first, waiting-next, waiting_last, told_next, told_last}
use Rattle.book.proofs.waits.fill_waits.Goals as goal

pub loop-number-init : goal.loop-number-init
loop-number-init c =
    (c.row_count-n.ensures.meaning, c.row_count-n.ensures.bounded, search rules, search rules, length-no_waits _ c.requires.0, waiting_first _ _ _ _ c.requires.0, refl)

pub loop-number-preserved : goal.loop-number-preserved
loop-number-preserved c = (
  c.loop-number.invariant.0,
  c.loop-number.invariant.1,
  search rules,
  search rules,
  search rules,
  waiting-next _ _ c.loop-number.number _ _ c.loop-number.invariant.2 (omega (arith, c.loop-number.invariant.0)) c.add_own-here.ensures.waits c.loop-number.invariant.5,
  told_next _ _ c.loop-number.number c.loop-number.found c.add_own-here.result c.loop-number.invariant.2 (omega (arith, c.loop-number.invariant.0)) c.add_own-here.ensures.tells c.loop-number.invariant.6,
)

pub returns-clause-waits : goal.returns-clause-waits
returns-clause-waits c =
    waiting_last _ _ (c.loop-number.number - 1) _ (omega arith) c.loop-number.invariant.4 c.loop-number.invariant.5

pub returns-clause-tells : goal.returns-clause-tells
returns-clause-tells c =
    told_last _ _ (c.loop-number.number - 1) _ (omega arith) c.loop-number.invariant.6

pub returns-2-clause-tells : goal.returns-2-clause-tells
returns-2-clause-tells c =
    told_last _ _ (c.loop-number.number + 1 - 1) _ (omega arith) (told_next _ _ c.loop-number.number c.loop-number.found c.add_own-here.result c.loop-number.invariant.2 (omega (arith, c.loop-number.invariant.0)) c.add_own-here.ensures.tells c.loop-number.invariant.6)
