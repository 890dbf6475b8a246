-- A row found so far or among the rows that are left is one among all.
use Prim.Native.Nat.{◌+◌, ◌-◌}
use native.Mathlib.Omega.{arith}
use borrow.Author.Rules.{rules}
use Rattle.book.proofs.WaitLaws.{told_next, told_last}
use Rattle.asks.proofs.twins.any_ask_twin.Goals as goal

pub loop-number-preserved : goal.loop-number-preserved
loop-number-preserved c = (
  c.loop-number.invariant.0,
  c.loop-number.invariant.1,
  search rules,
  search rules,
  told_next _ _ c.loop-number.number c.loop-number.found c.is_ask_twin-found.result c.loop-number.invariant.2 (omega (arith, c.loop-number.invariant.0)) c.is_ask_twin-found.ensures c.loop-number.invariant.4,
)

pub returns : goal.returns
returns c =
    told_last _ _ (c.loop-number.number - 1) _ (omega (arith, c.loop-number.invariant.0)) c.loop-number.invariant.4

pub returns-2 : goal.returns-2
returns-2 c =
    let all =
    told_next _ _ c.loop-number.number c.loop-number.found c.is_ask_twin-found.result c.loop-number.invariant.2 (omega (arith, c.loop-number.invariant.0)) c.is_ask_twin-found.ensures c.loop-number.invariant.4 in
    told_last _ _ (c.loop-number.number + 1 - 1) _ (omega (arith, c.loop-number.invariant.0)) all
