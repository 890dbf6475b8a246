-- To end the rows that are left, after those ended so far, is to end all.
use Prim.Native.Nat.{◌+◌, ◌-◌, ◌*◌}
use mathlib.Core.Path.{◌≡◌, sym, ◌∙◌}
use native.Mathlib.Omega.{arith}
use Rattle.image.specs.Layout.{row_width}
use Rattle.image.specs.Changes.{ended}
use Rattle.image.proofs.Writing.Loops.{sweep_on, sweep_done}
use Rattle.batches.proofs.gate.end_rows.Goals as goal

pub loop-i-preserved : goal.loop-i-preserved
loop-i-preserved c =
    let at = c.args.from + row_width * c.loop-i.i in
    let next : c.args.from + row_width * (c.loop-i.i + 1) ≡ at + row_width = omega arith in
    rw next (c.loop-i.invariant ∙ sweep_on ended row_width c.loop-i.s at _ (c.args.n - c.loop-i.i) (c.args.n - (c.loop-i.i + 1)) (omega arith) c.end_row.ensures)

pub returns : goal.returns
returns c = sym (c.loop-i.invariant ∙ sweep_done _ _ _ _ _ (omega arith))
