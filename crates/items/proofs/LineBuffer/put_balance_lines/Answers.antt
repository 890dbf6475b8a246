-- The lines put so far and those of the balances that are left are together the whole text.
use Rattle.std.proofs.Common.{◌+◌, ◌-◌, arith}
use native.Mathlib.Nat.{sub-zero}
use Rattle.items.proofs.ListLaws.{underway_start, underway_line, underway_done, balances_whole, balances_next, balances_none}
use Rattle.items.proofs.LineBuffer.put_balance_lines.Goals as goal

pub loop-k-init : goal.loop-k-init
loop-k-init c = rw sub-zero (underway_start _ _ (balances_whole _ _) (omega arith))

pub loop-k-preserved : goal.loop-k-preserved
loop-k-preserved c =
    let left = c.args.n - (c.loop-k.k + 1) in
    underway_line _ _ left c.loop-k.invariant (balances_next _ c.loop-k.k (c.args.n - c.loop-k.k) left (omega arith)) (omega arith) (omega arith) (rw c.balance_at.ensures.figure at c.put_balance.ensures.put) c.put_balance.ensures.bounded

pub returns-clause-put : goal.returns-clause-put
returns-clause-put c =
    underway_done c.loop-k.invariant (balances_none _ c.loop-k.k (c.args.n - c.loop-k.k) (omega arith))
