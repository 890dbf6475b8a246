-- What the word lacks of the first number is the second, but for a multiple of 2^64, which changes no byte.
use Rattle.std.proofs.Common.{rules}
use Rattle.wire.proofs.NumberLaws.{signed_difference}
use Rattle.wire.proofs.signed.difference_u64.Goals as goal

pub returns : goal.returns
returns c = signed_difference 8 _ _ _ (search rules)
