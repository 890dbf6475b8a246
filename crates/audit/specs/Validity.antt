-- A book section by section, as code tests it in its bytes: the set-up first, then what is read by it. Each test looks at its own places.
-- `top` is the most periods that a day can have, 25 hours today.
use Rattle.std.specs.Prelude.{ℕ, ◌+◌, ◌-◌, ◌*◌, ◌≤◌, ◌≡◌, List, [], ◌∷◌, Bool, not, ◌&&◌, ◌||◌, length, get_or, take, drop, eqb, leb, if◌then◌else◌}
use Rattle.wire.specs.Numbers.{number_at}
use Rattle.wire.specs.Regions.{zeros_from}
use Rattle.rules.specs.declared.Row.{Row}
use Rattle.rules.specs.Basics.{any_passes, every, all_of, up_to, within, Each}
use Rattle.rules.specs.Limits.{most_guarantee, thousand, most_operators, most_accounts, most_rows, most_schedules, most_hours, book_size}
use Rattle.rules.specs.Books.{Part, registration_phase, settled_phase}
use Rattle.rules.specs.Opening.{counts_in, operators_offset, setup_length, setup_of, guarantee_width}
use Rattle.rules.specs.Registration.{pending}
use Rattle.image.specs.Layout.{setup_room, row_width, schedule_width, part_size, phase_offset, flag_offset, schedule_count_offset, schedules_offset, present_offset, saved_offset, row_count_offset, rows_offset, ask_offset}
use Rattle.image.specs.Image.{row_in}
use Rattle.image.specs.Valid.{setup_ok, row_ok, schedule_ok, no_twins, margins_kept, operators_covered, part_ok, follows}
use Rattle.image.specs.Cells.{rows_from, schedules_from, guarantees_from, part_at}
use Rattle.image.specs.Tables.{SetupTabled}
use Rattle.tables.specs.Sums.{EstimatesInRange, RowsTabled}
use Rattle.audit.specs.Exact.{no_guarantees, nets_match, part_exact}

-- ---- the set-up

-- opening would accept it; it has no guarantees, and only zeros follow it
abbrev pub setup_valid_tests : List ℕ → List Bool
setup_valid_tests s =
    setup_ok (setup_of (take setup_room s))
    ∷ no_guarantees s (operators_offset (counts_in s)) (counts_in s).operators
    ∷ zeros_from s (setup_length (counts_in s)) (setup_room - setup_length (counts_in s))
    ∷ []

-- all of these hold
unfoldable pub setup_valid : List ℕ → Bool
setup_valid s = all_of (setup_valid_tests s)

-- what is known of a book's bytes once its set-up is valid
pub record SetupKnown (top : ℕ) (s : List ℕ) : Type 0 where
  pub size : length s ≡ book_size
  pub tabled : SetupTabled top s
  pub operators_high : (counts_in s).operators ≤ most_operators
  pub prices_high : EstimatesInRange s
  pub maintenance_high : Each (λ m. m ≤ thousand) (setup_of s).maintenance

-- ---- a part, the present and the saved one alike

-- how many rows the part that begins at `at` says that it has
abbrev pub row_count : List ℕ → ℕ → ℕ
row_count s at = number_at s (at + row_count_offset) 2

-- those rows
abbrev pub rows_of : List ℕ → ℕ → List Row
rows_of s at = rows_from s (at + rows_offset) (row_count s at)

-- the guarantees at `at` with these rows
abbrev pub part_with : List ℕ → ℕ → List Row → Part
part_with s at rows = record { guarantees = guarantees_from s at (counts_in s).operators; rows = rows }

-- what is known of the guarantees at `at` once each is in range
pub record GuaranteesKnown (s : List ℕ) (at : ℕ) : Type 0 where
  pub whole : at + row_count_offset ≤ length s
  pub in_range : Each (λ g. g.0 ≤ most_guarantee) (guarantees_from s at (counts_in s).operators)

-- what is known of the part at `at` once its guarantees and its n rows are in range
pub record PartKnown (top : ℕ) (s : List ℕ) (at n : ℕ) : Type 0 where
  pub whole : at + part_size top ≤ length s
  pub guarantees : GuaranteesKnown s at
  pub rows : RowsTabled top s (at + rows_offset) n

-- no guarantee is too great, and only zeros follow them
abbrev pub guarantees_valid_tests : List ℕ → ℕ → ℕ → List Bool
guarantees_valid_tests s at operators =
    every (λ g. leb g.0 most_guarantee) (guarantees_from s at operators)
    ∷ zeros_from s (at + guarantee_width * operators) (guarantee_width * most_operators - guarantee_width * operators)
    ∷ []

-- both hold
unfoldable pub guarantees_valid : List ℕ → ℕ → ℕ → Bool
guarantees_valid s at operators = all_of (guarantees_valid_tests s at operators)

-- the n rows are in range, no two pending ones alike, and only zeros follow them
abbrev pub rows_valid_tests : List ℕ → ℕ → ℕ → List Bool
rows_valid_tests s at n =
    every (row_ok (setup_of s)) (rows_from s (at + rows_offset) n)
    ∷ zeros_from s (at + rows_offset + row_width * n) (row_width * most_rows - row_width * n)
    ∷ no_twins (rows_from s (at + rows_offset) n)
    ∷ []

-- all of these hold
unfoldable pub rows_valid : List ℕ → ℕ → ℕ → Bool
rows_valid s at n = all_of (rows_valid_tests s at n)

-- the nets are those of the rows, which keep the margins and are covered
abbrev pub sums_valid_tests : ℕ → List ℕ → ℕ → List Row → List Bool
sums_valid_tests top s at rows =
    nets_match top rows s at
    ∷ margins_kept (setup_of s) rows
    ∷ operators_covered (setup_of s) (part_with s at rows)
    ∷ []

-- all of these hold
unfoldable pub sums_valid : ℕ → List ℕ → ℕ → List Row → Bool
sums_valid top s at rows = all_of (sums_valid_tests top s at rows)

-- the part is valid, and its bytes are its image
unfoldable pub part_valid : ℕ → List ℕ → ℕ → Bool
part_valid top s at = part_ok (setup_of s) (part_at top (counts_in s).operators s at) && part_exact top (counts_in s).operators s at

-- the saved part by itself: zeros without a batch, a valid part with one
unfoldable pub saved_part_valid : ℕ → List ℕ → Bool
saved_part_valid top s = if eqb (get_or s flag_offset 0) 0 then zeros_from s (saved_offset top) (part_size top) else part_valid top s (saved_offset top)

-- with a batch the present rows follow the saved ones
unfoldable pub saved_followed : ℕ → List ℕ → Bool
saved_followed top s = eqb (get_or s flag_offset 0) 0 || follows (rows_of s (saved_offset top)) (rows_of s present_offset)

-- with a batch there are no more saved rows than a part has room for
abbrev pub SavedCounted : List ℕ → Type 0
SavedCounted s = (get_or s flag_offset 0 ≡ 0 → ⊥) → row_count s (saved_offset most_hours) ≤ most_rows

-- ---- schedules and phase

-- there are no more schedules than a book has room for, each in range, and only zeros follow them
abbrev pub schedules_valid_tests : List ℕ → List Bool
schedules_valid_tests s =
    let n = number_at s schedule_count_offset 2 in
    leb n most_schedules
    ∷ every (schedule_ok (setup_of s)) (schedules_from s schedules_offset n)
    ∷ zeros_from s (schedules_offset + schedule_width * n) (schedule_width * most_schedules - schedule_width * n)
    ∷ []

-- all of these hold
unfoldable pub schedules_valid : List ℕ → Bool
schedules_valid s = all_of (schedules_valid_tests s)

-- none pending after phase 1, schedules only after it, an open batch only in it
abbrev pub phase_valid_tests : List ℕ → List Bool
phase_valid_tests s =
    let phase = get_or s phase_offset 0 in
    let flag = get_or s flag_offset 0 in
    within registration_phase phase settled_phase
    ∷ leb flag 1
    ∷ (eqb phase registration_phase || not (any_passes pending (rows_of s present_offset)))
    ∷ (not (eqb phase registration_phase) || eqb (number_at s schedule_count_offset 2) 0)
    ∷ (eqb phase registration_phase || eqb flag 0)
    ∷ []

-- all of these hold
unfoldable pub phase_valid : List ℕ → Bool
phase_valid s = all_of (phase_valid_tests s)

-- ---- asks

-- the place that begins at `at` is zero, or has a pending row of account a with every field in range
unfoldable pub ask_valid : List ℕ → ℕ → ℕ → Bool
ask_valid s a at =
    let r = row_in (take row_width (drop at s)) in
    if eqb r.status 0
    then zeros_from s at row_width
    else (eqb r.proposer a && pending r && row_ok (setup_of s) r)

-- that holds of the place of each account
unfoldable pub asks_valid : ℕ → List ℕ → Bool
asks_valid top s = every (λ a. ask_valid s a (ask_offset top a)) (up_to most_accounts)
