-- Both amounts at the price are their sum at the price, and each is bounded by the width of an energy.
use native.Mathlib.Omega.{arith}
use Rattle.image.proofs.Tables.MoneyLaws.{price_bounded}
use Rattle.tables.proofs.ExposureLaws.{price_joined}
use Rattle.tables.proofs.exposure.hour_exposure.Goals as goal

pub add-requires : goal.add-requires
add-requires c =
    let owed = price_bounded c.short-short.result.0 c.args.price.0 (omega arith) c.requires in
    let waits = price_bounded c.args.x.sales.0 c.args.price.0 (omega arith) c.requires in
    omega arith

pub returns : goal.returns
returns c =
    let owed = price_bounded c.short-short.result.0 c.args.price.0 (omega arith) c.requires in
    let waits = price_bounded c.args.x.sales.0 c.args.price.0 (omega arith) c.requires in
    (rw (← c.short-short.ensures) (omega (arith, price_joined c.args.price.0 c.short-short.result.0 c.args.x.sales.0)), omega arith)
