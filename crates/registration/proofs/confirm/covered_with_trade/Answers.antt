-- A sale that is confirmed leaves every operator covered. A pending purchase adds nothing to the exposure, so that with one the exposure is
-- that of the rows and the trade, which is worked out and tested.
use Rattle.std.proofs.Common.{◌∙◌, rules}
use Rattle.rules.specs.Basics.{nil, cons}
use Rattle.registration.proofs.ConfirmLaws.{purchase_frees_none, trade-in_range}
use Rattle.registration.proofs.confirm.covered_with_trade.Goals as goal

pub exposure_with-owed-requires : goal.exposure_with-owed-requires
exposure_with-owed-requires c =
    (c.requires.known_book.0, cons (trade-in_range _ _ c.requires.known_book.0 c.requires.waits_in.0 _ c.requires.waits_in.1) nil)

pub returns : goal.returns
returns c =
    c.covered_in_force.ensures
    ∙ rw (c.exposure_with-owed.ensures.meaning, c.operator_of-operator.ensures.meaning, c.requires.waits_in.1)
    (purchase_frees_none _ _ _ _ _ (search rules))
