-- The product is that of the slot, and the slot's cells are in the table.
use native.Mathlib.Omega.{arith}
use Rattle.image.proofs.Tables.SumLaws.{cell_fits}
use Rattle.tables.proofs.sums.cell.Goals as goal

pub overflow_mul-result-2 : goal.overflow_mul-result-2
overflow_mul-result-2 c = omega (arith, cell_fits _ _ _ _ c.requires.0 c.requires.1)

pub overflow_add-result-2 : goal.overflow_add-result-2
overflow_add-result-2 c = omega (arith, cell_fits _ _ _ _ c.requires.0 c.requires.1)

pub returns : goal.returns
returns c = omega (arith, cell_fits _ _ _ _ c.requires.0 c.requires.1)
