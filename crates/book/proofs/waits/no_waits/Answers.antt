-- An array of zeros is the list of as many zeros.
use mathlib.Core.Path.{refl}
use Rattle.book.specs.Waits.{no_waits}
use Rattle.book.proofs.waits.no_waits.Goals as goal

pub returns : goal.returns
unfolding no_waits
returns c = refl
