-- The exposure with the rows in is what stands and what the rows add, and it is tested as any exposure.
use mathlib.Core.Path.{◌∙◌}
use Rattle.wire.proofs.NumberLaws.{bytes_known}
use Rattle.rules.specs.Basics.{nil}
use Rattle.strips.proofs.ReadyLaws.{proposer_known}
use Rattle.strips.proofs.CoverLaws.{exposure_with-strip}
use Rattle.strips.proofs.cover.covered_with_strip.Goals as goal

pub operator_of-operator-requires : goal.operator_of-operator-requires
operator_of-operator-requires c =
    (c.requires.0, rw c.requires.2 (proposer_known _ _ c.args.n (bytes_known _ c.type_inv.bytes) c.requires.1))

pub exposure_with-standing-requires : goal.exposure_with-standing-requires
exposure_with-standing-requires c = (c.requires.0, nil)

pub returns : goal.returns
returns c =
    c.covered_in_force.ensures
    ∙ rw (
      exposure_with-strip _ _ c.args.n _ c.requires.0 (bytes_known _ c.type_inv.bytes) c.requires.1 _ _ _
          c.exposure_with-standing.ensures.meaning c.strip_sales-added.ensures.meaning c.add.ensures,
      c.operator_of-operator.ensures.meaning,
    )
