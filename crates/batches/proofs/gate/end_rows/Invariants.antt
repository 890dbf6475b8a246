-- To end the rows that are left, after those ended so far, is to end all.
use Prim.Native.Nat.{◌+◌, ◌-◌, ◌*◌}
use mathlib.Core.Path.{◌≡◌}
use Rattle.wire.specs.Parts.{sweep}
use Rattle.image.specs.Layout.{row_width}
use Rattle.image.specs.Changes.{ended}
use Rattle.batches.proofs.gate.end_rows.Given as goal

abbrev pub invariant-loop-i : goal.invariant-loop-i
invariant-loop-i l =
    sweep ended row_width l.initial.s l.from l.fn.n ≡ sweep ended row_width l.s (l.from + row_width * l.i) (l.fn.n - l.i)
