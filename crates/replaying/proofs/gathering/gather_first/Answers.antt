-- The lines of the beginning stand at the front; all that follows is to come.
use Rattle.replaying.proofs.GatherLaws.{first_left, first_whole}
use Rattle.replaying.proofs.gathering.gather_first.Goals as goal

pub returns-clause-left : goal.returns-clause-left
returns-clause-left c =
    let first = c.begin-first.ensures in first_left _ _ _ first.answer first.book first.out

pub returns-clause-whole : goal.returns-clause-whole
returns-clause-whole c =
    let first = c.begin-first.ensures in first_whole _ _ _ first.answer first.book first.out
