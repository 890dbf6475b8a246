-- The seller's nets are written first and then the buyer's; to raise by 2^32 less the quantity is to lower by the quantity.
use Rattle.std.proofs.Common.{arith}
use Rattle.image.proofs.Tables.TabledLaws.{first_hour_lem, seller_in, buyer_in}
use Rattle.registration.proofs.PositionLaws.{nets_moved_lem}
use Rattle.registration.proofs.positions.move_nets.Goals as goal

pub net_offset-requires : goal.net_offset-requires
net_offset-requires c =
    rw c.seller-seller.ensures (first_hour_lem c.args.r _ c.requires.1 (seller_in c.args.r c.requires.1))

pub net_offset-requires-2 : goal.net_offset-requires-2
net_offset-requires-2 c =
    rw c.buyer-buyer.ensures (first_hour_lem c.args.r _ c.requires.1 (buyer_in c.args.r c.requires.1))

pub returns : goal.returns
returns c =
    nets_moved_lem _ _ _ c.args.r _ _ _ _ _ _ c.seller-seller.ensures c.buyer-buyer.ensures c.net_offset.ensures c.net_offset-2.ensures
    c.raise_nets.ensures c.raise_nets-2.ensures (omega arith) (omega (arith, c.requires))
