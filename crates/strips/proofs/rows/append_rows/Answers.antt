-- The rows appended so far, and those that are left appended after them, make all rows appended.
use Prim.Native.Nat.{◌+◌, ◌-◌, ◌*◌}
use mathlib.Core.Path.{◌≡◌}
use native.Mathlib.Omega.{arith}
use borrow.Author.Rules.{rules}
use Rattle.rules.specs.Requests.{head_length, row_length}
use Rattle.strip_rows.proofs.RowSteps.{any_register}
use Rattle.strips.proofs.LoopLaws.{append-step, append_done}
use Rattle.strips.proofs.rows.append_rows.Goals as goal

pub row_request-q-requires : goal.row_request-q-requires
row_request-q-requires c = any_register _ head_length c.args.n c.loop-i.i (omega arith) c.requires.1.rows

pub loop-i-preserved : goal.loop-i-preserved
loop-i-preserved c =
    let k = head_length + row_length * c.loop-i.i in
    let next : head_length + row_length * (c.loop-i.i + 1) ≡ k + row_length = omega arith in
    let number : c.args.count + (c.loop-i.i + 1) ≡ c.args.count + c.loop-i.i + 1 = omega arith in (
      search rules,
      rw (next, number) (append-step _ k (c.args.n - c.loop-i.i) (c.args.n - (c.loop-i.i + 1)) (omega arith) c.row_request-q.ensures c.proposed_row.ensures _ _ _ (c.args.count + c.loop-i.i) c.append_row.ensures c.loop-i.invariant.1),
    )

pub returns : goal.returns
returns c = append_done _ _ (c.args.n - c.loop-i.i) (omega arith) _ _ _ c.loop-i.invariant.1
