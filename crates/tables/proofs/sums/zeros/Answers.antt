-- The array has a zero in each cell.
use native.Mathlib.Omega.{arith}
use Rattle.rules.specs.Limits.{most_hours}
use Rattle.image.specs.Tables.{table_size}
use Rattle.tables.proofs.FillLaws.{none_of_zeros}
use Rattle.tables.proofs.sums.zeros.Goals as goal

pub returns : goal.returns
returns c = none_of_zeros most_hours (table_size most_hours) (omega arith)
