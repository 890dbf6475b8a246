-- Bytes that are an image, by tests that each look at one place: what is not used is zero, the flag is 0 or 1, the set-up has no
-- guarantees, each stored net is that of the rows, and an account's place has an ask or zeros. No image is built.
use Rattle.std.specs.Prelude.{ℕ, zero, suc, ◌+◌, ◌-◌, ◌*◌, ◌%◌, ◌^◌, List, [], ◌∷◌, Bool, true, ◌&&◌, ◌||◌, get_or, take, drop, eqb, leb}
use Rattle.wire.specs.Numbers.{number_at}
use Rattle.wire.specs.Regions.{zeros_from}
use Rattle.rules.specs.declared.Row.{Row}
use Rattle.rules.specs.Basics.{every, all_of, is_some, up_to}
use Rattle.rules.specs.Limits.{most_operators, most_accounts, most_rows, most_schedules}
use Rattle.rules.specs.Registration.{bought, sold}
use Rattle.rules.specs.Opening.{counts_in, operators_offset, setup_length, guarantee_width, operator_entry}
use Rattle.image.specs.Layout.{setup_room, row_width, schedule_width, part_size, used_size, flag_offset, schedule_count_offset, schedules_offset, present_offset, saved_offset, row_count_offset, row_offset, net_offset, net_width, ask_offset}
use Rattle.image.specs.Image.{ask_in}
use Rattle.image.specs.Cells.{part_at}

-- the n operators from `at` on have no guarantees
unfoldable pub no_guarantees : List ℕ → ℕ → ℕ → Bool
no_guarantees s at zero = true
no_guarantees s at (suc n) = zeros_from s at guarantee_width && no_guarantees s (at + operator_entry) n

-- the net in 4 bytes is what was bought less what was sold, but for multiples of 2 ^ 32
abbrev pub net_matches : List Row → ℕ → ℕ → ℕ → Bool
net_matches rows a h stored = eqb ((stored + sold rows a h) % 256 ^ net_width) (bought rows a h % 256 ^ net_width)

-- so is every net of the part that begins at `at`
unfoldable pub nets_match : ℕ → List Row → List ℕ → ℕ → Bool
nets_match top rows s at = every (λ a. every (λ h. net_matches rows a h (number_at s (at + net_offset top a h) net_width)) (up_to top)) (up_to most_accounts)

-- the tests of a part: zeros past its guarantees and past its rows, and the nets of its rows
abbrev pub part_exact_tests : ℕ → ℕ → List ℕ → ℕ → List Bool
part_exact_tests top operators s at =
    zeros_from s (at + guarantee_width * operators) (guarantee_width * most_operators - guarantee_width * operators)
    ∷ zeros_from s (at + row_offset (number_at s (at + row_count_offset) 2)) (row_width * most_rows - row_width * number_at s (at + row_count_offset) 2)
    ∷ nets_match top (part_at top operators s at).rows s at
    ∷ []

-- past the guarantees and the rows are zeros, and the nets are those of the rows
unfoldable pub part_exact : ℕ → ℕ → List ℕ → ℕ → Bool
part_exact top operators s at = all_of (part_exact_tests top operators s at)

-- without a batch the saved part is zero
unfoldable pub saved_exact : ℕ → ℕ → ℕ → List ℕ → Bool
saved_exact zero top operators s = zeros_from s (saved_offset top) (part_size top)
saved_exact (suc flag) top operators s = part_exact top operators s (saved_offset top)

-- the place that begins at `at` has an ask, or is zero
abbrev pub ask_exact : List ℕ → ℕ → Bool
ask_exact s at = is_some (ask_in (take row_width (drop at s))) || zeros_from s at row_width

-- that holds of the place of each account
unfoldable pub asks_exact : ℕ → List ℕ → Bool
asks_exact top s = every (λ a. ask_exact s (ask_offset top a)) (up_to most_accounts)

-- the tests of a book, in the order of its sections
abbrev pub book_exact_tests : ℕ → ℕ → List ℕ → List Bool
book_exact_tests top size s =
    zeros_from s (setup_length (counts_in s)) (setup_room - setup_length (counts_in s))
    ∷ no_guarantees s (operators_offset (counts_in s)) (counts_in s).operators
    ∷ leb (get_or s flag_offset 0) 1
    ∷ zeros_from s (schedules_offset + schedule_width * number_at s schedule_count_offset 2) (schedule_width * most_schedules - schedule_width * number_at s schedule_count_offset 2)
    ∷ part_exact top (counts_in s).operators s present_offset
    ∷ saved_exact (get_or s flag_offset 0) top (counts_in s).operators s
    ∷ asks_exact top s
    ∷ zeros_from s (used_size top) (size - used_size top)
    ∷ []

-- all of these hold
unfoldable pub book_exact : ℕ → ℕ → List ℕ → Bool
book_exact top size s = all_of (book_exact_tests top size s)
