-- Each case of what was found says where the walk goes on.
use Rattle.items.specs.Stream.{past_found}
use Rattle.items.proofs.stream.past_found.Goals as goal

pub returns-in-Whole : goal.returns-in-Whole
unfolding past_found
returns-in-Whole c = rw c.in-Whole.is

pub returns-in-Cut : goal.returns-in-Cut
unfolding past_found
returns-in-Cut c = rw c.in-Cut.is

pub returns-in-End : goal.returns-in-End
unfolding past_found
returns-in-End c = rw c.in-End.is
