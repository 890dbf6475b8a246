-- The exposure is that of the rows, and what is available is that of the guarantee and the maintenance that were read.
use mathlib.Core.Path.{◌∙◌, ap}
use native.Mathlib.Omega.{arith}
use Rattle.rules.specs.declared.Operator.{Operator}
use Rattle.audit.proofs.CoverLaws.{guarantee_small, maintenance_small, covered_read}
use Rattle.units.proofs.OrderLaws.{is_le-leb}
use Rattle.audit.proofs.part.operator_covered.Goals as goal

pub available-requires : goal.available-requires
available-requires c =
    let g = guarantee_small c.args.book.now c.args.at _ c.args.number c.requires.setup_known.1.in_range (omega arith) (omega arith) in
    let m = maintenance_small c.args.book.now c.args.number c.requires.setup_known.0.maintenance_high (omega arith) (omega arith) in
    (omega (arith, g, c.get.ensures), omega (arith, m, ap (λ (x : Operator). x.maintenance) c.operator-entry.ensures))

pub returns : goal.returns
returns c rows sums =
    c.le.ensures ∙ is_le-leb _ _
    ∙ covered_read _ _ rows _ _ _ _ _ c.requires.numbered.0 c.requires.numbered.1 (c.exposure_of-exposed.ensures rows sums) c.operator-entry.ensures c.get.ensures c.available.ensures.exact
