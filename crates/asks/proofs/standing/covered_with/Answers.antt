-- The exposure with the row in is the operator's and what the row adds, and it is tested as any exposure.
use mathlib.Core.Path.{◌∙◌}
use native.Mathlib.Omega.{arith}
use Rattle.image.proofs.Sound.Soundness.{sound_row}
use Rattle.book.proofs.WorthParts.{sound_row_in_range}
use Rattle.asks.proofs.SharedLaws.{exposure_with_row, exposure_high}
use Rattle.asks.proofs.standing.covered_with.Goals as goal

pub operator_of-operator-requires : goal.operator_of-operator-requires
operator_of-operator-requires c =
    let k = sound_row _ _ c.requires.sound_row.0 in
    (c.requires.operator_exposures.1.is_sound, (k.proposer_low, k.proposer_high))

pub sale_of-added-requires : goal.sale_of-added-requires
sale_of-added-requires c =
    (c.requires.operator_exposures.1, sound_row_in_range _ _ (sound_row _ _ c.requires.sound_row.0))

pub add-requires : goal.add-requires
add-requires c =
    let standing = c.requires.operator_exposures.0.exposure_at _ c.operator_of-operator.ensures.inside.0 c.operator_of-operator.ensures.inside.1 in
    let high = exposure_high _ c.requires.operator_exposures.1.is_sound _ c.operator_of-operator.ensures.inside in
    omega (arith, standing, high, c.sale_of-added.ensures.bounded)

pub returns : goal.returns
returns c =
    let standing = c.requires.operator_exposures.0.exposure_at _ c.operator_of-operator.ensures.inside.0 c.operator_of-operator.ensures.inside.1 in
    let row = sound_row _ _ c.requires.sound_row.0 in
    c.covered_in_force.ensures
    ∙ rw (
      exposure_with_row _ c.requires.operator_exposures.1.is_sound _ c.args.row row c.requires.sound_row.1 _ _ _ standing c.sale_of-added.ensures.meaning c.add.ensures,
      c.operator_of-operator.ensures.meaning,
    )
