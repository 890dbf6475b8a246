-- One row of a strip: what it says, read from fixed places.
use Prim.Native.Nat.{ℕ}
use mathlib.Core.Path.{◌≡◌}
use mathlib.Core.List.{List}
use Rattle.wire.specs.Numbers.{number_at}
use Rattle.units.specs.Units.{kwh, cents, cents_per_mwh}
use Rattle.rules.specs.Basics.{total, counting, bit}
use Rattle.rules.specs.Requests.{kind_number, register, wanted_map, map_of, room, offset, field_in, request_of}

-- with the map of a register the first eight fields stand side by side, and the others are 0
pub register_says : (s : List ℕ) → map_of s ≡ wanted_map (kind_number register)
    → request_of s
    ≡ record {
      kind = number_at s 2 1;
      account = number_at s 3 1;
      other = number_at s 4 1;
      code = number_at s 5 8;
      side = number_at s 13 1;
      first = number_at s 14 1;
      last = number_at s 15 1;
      quantity = kwh (number_at s 16 4);
      number = 0;
      operator = 0;
      guarantee = cents 0;
      point = 0;
      price = cents_per_mwh 0;
    }
unfolding request_of field_in offset room total counting bit
register_says s h = rw h
