-- The tests are those of the definition, in its order; a code of 64 bits is always in range.
use native.Mathlib.Omega.{arith}
use Rattle.audit.proofs.CheckLaws.{row_by_counts}
use Rattle.audit.proofs.checks.row_ok.Goals as goal

pub returns : goal.returns
returns c u n h = row_by_counts u _ _ _ n h (omega arith)
