-- The four tests are the definition's, in its order.
use Rattle.std.proofs.Common.{refl}
use Rattle.rules.specs.Registration.{mirrors}
use Rattle.registration.proofs.confirm.is_mirrored.Goals as goal

pub returns : goal.returns
unfolding mirrors
returns c = refl
