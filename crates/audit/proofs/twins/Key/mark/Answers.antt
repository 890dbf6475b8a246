-- The word is below 2^32, so its product fits.
use borrow.Author.Rules.{rules}
use Rattle.audit.specs.Twins.{mark_of}
use Rattle.audit.proofs.twins.Key.mark.Goals as goal

pub returns : goal.returns
unfolding mark_of
returns c = search rules
