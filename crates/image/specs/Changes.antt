-- What a loop over a book's cells puts to each of them.
use Rattle.std.specs.Prelude.{ℕ, ◌+◌, List, get_or, eqb, if◌then◌else◌}
use Rattle.wire.specs.Numbers.{number, le}
use Rattle.wire.specs.Regions.{splice}
use Rattle.rules.specs.Books.{pending_status, withdrawn_status}
use Rattle.image.specs.Layout.{status_offset}

-- the number in these bytes, raised; what is more than fits goes round, so that 256 ^ width - q lowers it by q
unfoldable pub raised : ℕ → ℕ → List ℕ → List ℕ
raised width more c = le width (number c + more)

-- the bytes of a row, withdrawn if it is pending
unfoldable pub ended : List ℕ → List ℕ
ended c = if eqb (get_or c status_offset 0) pending_status then splice c status_offset (le 1 withdrawn_status) else c
