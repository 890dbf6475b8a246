-- The buyer's cells are raised in one lane and the seller's in another, so that neither touches the other.
use native.Mathlib.Omega.{arith}
use Rattle.rules.specs.Limits.{most_accounts}
use Rattle.image.specs.Tables.{slot_of}
use Rattle.rules.proofs.Basics.Products.{stride}
use Rattle.image.proofs.Tables.SumLaws.{room_past}
use Rattle.image.proofs.Tables.TabledLaws.{buyer_in, seller_in}
use Rattle.tables.proofs.ShareLaws.{added_confirmed}
use borrow.Author.Rules.{rules}
use Rattle.tables.proofs.sums.add_confirmed.Goals as goal

pub add_hours-requires : goal.add_hours-requires
add_hours-requires c =
    let buys = buyer_in c.args.r c.requires.1.tabled in
    record { sum_table = (c.requires.0, search rules, (rw c.buyer-buyer.ensures buys.0, rw c.buyer-buyer.ensures buys.1)); tabled = (c.requires.1.tabled, λ k l. c.requires.1.room k (omega arith)) }

pub add_hours-requires-2 : goal.add_hours-requires-2
add_hours-requires-2 c =
    let buys = buyer_in c.args.r c.requires.1.tabled in
    let sells = seller_in c.args.r c.requires.1.tabled in
    record { sum_table = (search rules, search rules, (rw c.seller-seller.ensures sells.0, rw c.seller-seller.ensures sells.1)); tabled = (c.requires.1.tabled, room_past _ _ _ _ _ _ c.add_hours.ensures (omega (arith, stride c.args.top (slot_of 0 c.buyer-buyer.result) most_accounts (omega arith))) c.requires.1.room) }

pub returns : goal.returns
returns c =
    added_confirmed _ _ _ _ c.requires.1.tabled c.requires.2 (rw c.buyer-buyer.ensures at c.add_hours.ensures) (rw c.seller-seller.ensures at c.add_hours-2.ensures)
