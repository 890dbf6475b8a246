-- Strips beside registers (document 02, note 3): a row that is the record of one, the strip of one record, and the registers that a strip's
-- rows would be as calls.
use Rattle.std.specs.Prelude.{ℕ, ◌≡◌, List, ◌∷◌, map}
use Rattle.rules.specs.Requests.{register, kind_number, wanted_map, map_of, field_in, strip_rows}
use Rattle.rules.specs.Calls.{Call}

-- the row is the record of a register, by its kind and its map
pub record IsRegister (row : List ℕ) : Type 0 where
  pub of_kind : field_in row 0 ≡ kind_number register
  pub mapped : map_of row ≡ wanted_map (kind_number register)

-- the call with these bytes and the same table and buffers
abbrev pub with_bytes : Call → List ℕ → Call
with_bytes c s = record { bytes = s; prices = c.prices; results = c.results; balances = c.balances }

-- the strip of one record: the map, the kind and a count of 1 before it
abbrev pub strip_of_one : Call → Call
strip_of_one c = with_bytes c (1 ∷ 0 ∷ 11 ∷ 1 ∷ c.bytes)

-- the calls of its rows, one register each
abbrev pub registers_of : Call → List Call
registers_of c = map (with_bytes c) (strip_rows c.bytes)
