-- A pending purchase adds nothing to an exposure, so that it stays covered. With a sale the exposure is worked out and tested.
use Rattle.std.proofs.Common.{◌∙◌}
use Rattle.rules.specs.Basics.{nil, cons}
use Rattle.image.proofs.Keeping.Easing.{purchase_exposes_none}
use Rattle.registration.proofs.CoverLaws.{still_covered}
use Rattle.registration.proofs.register.covered_with_row.Goals as goal

pub returns-then-row-ne-SELLS : goal.returns-then-row-ne-SELLS
returns-then-row-ne-SELLS c =
    still_covered _ _ _ c.requires.known_book.0 c.requires.known_book.1 (purchase_exposes_none _ _ _ _ c.requires.trade_in_range.1 c.if-row-ne-SELLS.true)

pub exposure_with-owed-requires : goal.exposure_with-owed-requires
exposure_with-owed-requires c = (c.requires.known_book.0, cons c.requires.trade_in_range.0 nil)

pub returns : goal.returns
returns c =
    c.covered_in_force.ensures ∙ rw (c.exposure_with-owed.ensures.meaning, c.operator_of-operator.ensures.meaning)
