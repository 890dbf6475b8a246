-- A part in the bytes of a book (docs/LAYOUT.md): where it lies, and what copying or clearing it leaves. Past its last row a part is zero up
-- to the net positions, so that copying and clearing can leave this room alone.
use Rattle.std.specs.Prelude.{ℕ, ◌+◌, ◌-◌, ◌*◌, ◌≤◌, ◌≡◌, List, length, take, drop}
use Rattle.wire.specs.Regions.{splice, pasted}
use Rattle.wire.specs.Parts.{zeros}
use Rattle.rules.specs.Limits.{most_hours, most_rows}
use Rattle.image.specs.Layout.{row_width, row_offset, part_size}

-- the bytes have a part that begins at `at`
abbrev pub HasPart : List ℕ → ℕ → Type 0
HasPart s at = at + part_size most_hours ≤ length s

-- the part that begins at `at` has no row past the first n: up to the net positions all is zero
unfoldable pub NoRowsPast : List ℕ → ℕ → ℕ → Type 0
NoRowsPast s at n = take (row_width * most_rows - row_width * n) (drop (at + row_offset n) s) ≡ zeros (row_width * most_rows - row_width * n)

-- the part that begins at `from` copied over the one that begins at `to`
abbrev pub part_copied : List ℕ → ℕ → ℕ → List ℕ
part_copied s from to = pasted s to (drop from s) (part_size most_hours)

-- the part that begins at `at` made zero
abbrev pub part_cleared : List ℕ → ℕ → List ℕ
part_cleared s at = splice s at (zeros (part_size most_hours))
