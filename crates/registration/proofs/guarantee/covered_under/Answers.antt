-- A guarantee that is no lower covers what was covered; a lower one is compared with the exposure, nothing added.
use Rattle.std.proofs.Common.{◌∙◌}
use Rattle.rules.specs.Basics.{nil}
use Rattle.registration.proofs.guarantee.covered_under.Goals as goal

pub exposure_with-owed-requires : goal.exposure_with-owed-requires
exposure_with-owed-requires c =
    (c.requires.0, nil)

pub returns : goal.returns
returns c = c.covered_by.ensures ∙ rw c.exposure_with-owed.ensures.meaning
