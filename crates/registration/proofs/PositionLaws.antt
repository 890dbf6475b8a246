-- What moving the nets of a trade writes, from what its steps do.
use Rattle.std.proofs.Common.{◌≡◌, ℕ, ◌+◌, ◌-◌, ◌^◌, List}
use Rattle.wire.specs.Parts.{sweep}
use Rattle.rules.specs.declared.Row.{Row}
use Rattle.rules.specs.Limits.{most_hours}
use Rattle.rules.specs.Registration.{seller, buyer}
use Rattle.image.specs.Layout.{present_offset, net_offset, net_width}
use Rattle.image.specs.Changes.{raised}
use Rattle.registration.specs.Positions.{nets_moved}

-- the seller's nets from `low` on are lowered, then the buyer's from `high` on are raised
pub nets_moved_lem : (s m t : List ℕ) (r : Row) (a b low high n less : ℕ) → a ≡ seller r → b ≡ buyer r
    → low ≡ present_offset + net_offset most_hours a r.first → high ≡ present_offset + net_offset most_hours b r.first
    → m ≡ sweep (raised net_width less) net_width s low n → t ≡ sweep (raised net_width r.quantity.0) net_width m high n
    → n ≡ r.last - r.first + 1 → less ≡ 256 ^ net_width - r.quantity.0
    → t ≡ nets_moved s r
nets_moved_lem s m t r a b low high n less sells buys l h e f hours turn = rw (f, e, h, l, hours, turn, buys, sells)
