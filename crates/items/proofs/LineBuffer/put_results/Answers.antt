-- The lines put so far and those of the results that are left are together the whole text.
use Rattle.std.proofs.Common.{◌≡◌, ◌+◌, ◌-◌, get_or, take, arith}
use Rattle.std.proofs.lemmas.List.{length-take-le, get_or-take}
use native.Mathlib.Nat.{sub-zero}
use Rattle.items.proofs.ListLaws.{underway_start, underway_line, underway_done, results_whole, results_next, results_none}
use Rattle.items.proofs.LineBuffer.put_results.Goals as goal

pub loop-k-init : goal.loop-k-init
loop-k-init c = rw sub-zero (underway_start _ _ (results_whole _ _) (omega arith))

pub loop-k-preserved : goal.loop-k-preserved
loop-k-preserved c =
    let long = length-take-le c.args.n c.args.results.now (omega arith) in
    let left = c.args.n - (c.loop-k.k + 1) in
    let same : get_or (take c.args.n c.args.results.now) c.loop-k.k 0 ≡ get_or c.args.results.now c.loop-k.k 0 = get_or-take c.args.n c.args.results.now c.loop-k.k 0 (omega arith) in
    let next = results_next c.args.results.now c.loop-k.k (c.args.n - c.loop-k.k) left (omega arith) (omega arith) in
    underway_line _ _ left c.loop-k.invariant next (omega arith) (omega arith) (rw same at c.put_result.ensures.put) c.put_result.ensures.bounded

pub returns-clause-put : goal.returns-clause-put
returns-clause-put c =
    let long = length-take-le c.args.n c.args.results.now (omega arith) in
    underway_done c.loop-k.invariant (results_none _ c.loop-k.k (c.args.n - c.loop-k.k) (omega arith))
