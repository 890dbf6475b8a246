-- The row that a request proposes, and what is written of it (document 01, "Registration"; docs/LAYOUT.md).
use Rattle.std.specs.Prelude.{◌≡◌, ℕ, ◌+◌, ◌<◌, ◌≤◌, true, false, List, [], ◌∷◌, length}
use Rattle.wire.specs.Numbers.{le}
use Rattle.wire.specs.Regions.{splice}
use Rattle.rules.specs.declared.Row.{Row}
use Rattle.rules.specs.declared.Request.{Request}
use Rattle.rules.specs.Basics.{any_passes}
use Rattle.rules.specs.Limits.{most_rows}
use Rattle.rules.specs.Books.{Book, registration_phase}
use Rattle.rules.specs.Registration.{proposed, alike, has_twin, twins}
use Rattle.image.specs.Layout.{present_offset, row_offset, row_count_offset}
use Rattle.image.specs.Image.{row_bytes}
use Rattle.image.specs.Valid.{row_ok}

-- in the phase of registration, requests whose rows are like none that is pending and like no other, and there is a number for each
pub record Addable (b : Book) (qs : List Request) : Type 0 where
  pub in_registration : b.phase ≡ registration_phase
  pub none_standing : any_passes (has_twin b.part.rows) qs ≡ false
  pub none_alike : twins qs ≡ false
  pub has_room : length b.part.rows + length qs ≤ most_rows

-- the request proposes a row of the book: every field is in range, and it has two accounts
abbrev pub ProposesRow : Book → Request → Type 0
ProposesRow b q = row_ok b.setup (proposed q) ≡ true

-- in the phase of registration, the request proposes a row that is no twin of a pending one, and there is a number for it
pub record Proposing (b : Book) (q : Request) : Type 0 where
  pub proposes : ProposesRow b q
  pub in_registration : b.phase ≡ registration_phase
  pub no_twin : any_passes (alike q.account q.other q.code) b.part.rows ≡ false
  pub has_room : length b.part.rows < most_rows

-- the row put after the n that there are, and counted
abbrev pub row_appended : List ℕ → ℕ → Row → List ℕ
row_appended s n r = splice (splice s (present_offset + row_offset n) (row_bytes r)) (present_offset + row_count_offset) (le 2 (n + 1))

-- rows put one after the other behind the n that there are, each counted
unfoldable pub rows_appended : List ℕ → ℕ → List Row → List ℕ
rows_appended s n [] = s
rows_appended s n (r ∷ rs) = rows_appended (row_appended s n r) (n + 1) rs
