-- The cells of the schedule's point and of its account grow by what it uses up, and no other cell changes.
use mathlib.Core.Path.{refl}
use Rattle.valuation.proofs.CellLaws.{used-next}
use Rattle.valuation.proofs.congruity.use_up.Goals as goal

pub returns : goal.returns
returns c u net t before place e by =
    used-next u net t c.args.used.now _ _ _ _ _ _ c.requires.in_cells.0 (rw e c.requires.in_cells.1) c.share-q.ensures.0
    c.cell_for-at_point.ensures (rw e c.cell_for-at_account.ensures) refl refl by
