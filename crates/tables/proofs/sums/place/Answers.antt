-- The product is that of the account, and its places are among those of all accounts.
use native.Mathlib.Omega.{arith}
use Rattle.image.proofs.Tables.SumLaws.{place_fits}
use Rattle.tables.proofs.sums.place.Goals as goal

pub overflow_mul-result : goal.overflow_mul-result
overflow_mul-result c = omega (arith, place_fits _ _ _ c.requires.0)

pub overflow_add-result : goal.overflow_add-result
overflow_add-result c = omega (arith, place_fits _ _ _ c.requires.0)

pub returns : goal.returns
returns c = omega (arith, place_fits _ _ _ c.requires.0)
