-- The table is filled with the sums of the rows, so that each test by the table is the test of the rows.
use Rattle.audit.proofs.PartValidity.{sums_valid_lem}
use Rattle.audit.proofs.part.sums_valid.Goals as goal

pub returns : goal.returns
returns c =
    record { meaning = sums_valid_lem _ _ _ _ _ c.fill.ensures c.nets_match.ensures (c.margins_kept.ensures _ c.fill.ensures) (c.operators_covered.ensures _ c.fill.ensures); sums = c.fill.ensures }
