-- The net positions that a trade moves, in the bytes of a book (document 01, "Registration"; docs/LAYOUT.md).
use Rattle.std.specs.Prelude.{ℕ, ◌+◌, ◌-◌, ◌^◌, List}
use Rattle.wire.specs.Numbers.{le}
use Rattle.wire.specs.Regions.{splice}
use Rattle.wire.specs.Parts.{sweep}
use Rattle.rules.specs.declared.Row.{Row}
use Rattle.rules.specs.Limits.{most_hours}
use Rattle.rules.specs.Registration.{seller, buyer}
use Rattle.rules.specs.Books.{confirmed_status}
use Rattle.image.specs.Layout.{present_offset, row_offset, status_offset, net_offset, net_width}
use Rattle.image.specs.Changes.{raised}

-- the nets of an account in the hours of a trade, each raised by that much, modulo 2^32
abbrev pub nets_raised : List ℕ → ℕ → Row → ℕ → List ℕ
nets_raised s account r more =
    sweep (raised net_width more) net_width s (present_offset + net_offset most_hours account r.first) (r.last - r.first + 1)

-- the nets of a trade's parties moved: in each of its hours the seller's falls by the quantity, and the buyer's rises by it
abbrev pub nets_moved : List ℕ → Row → List ℕ
nets_moved s r = nets_raised (nets_raised s (seller r) r (256 ^ net_width - r.quantity.0)) (buyer r) r r.quantity.0

-- the row of that number gets the status of a confirmed one
abbrev pub marked_confirmed : List ℕ → ℕ → List ℕ
marked_confirmed s number = splice s (present_offset + row_offset (number - 1) + status_offset) (le 1 confirmed_status)
