-- What bytes say from a place on: rows, schedules, guarantees, and a part.
use Rattle.std.specs.Prelude.{ℕ, List, map, take, drop}
use Rattle.wire.specs.Numbers.{number}
use Rattle.wire.specs.Parts.{chunks}
use Rattle.units.specs.Units.{cents}
use Rattle.units.specs.declared.Cents.{Cents}
use Rattle.rules.specs.declared.Row.{Row}
use Rattle.rules.specs.declared.Schedule.{Schedule}
use Rattle.rules.specs.Books.{Part}
use Rattle.rules.specs.Opening.{guarantee_width}
use Rattle.image.specs.Layout.{row_width, schedule_width, part_size}
use Rattle.image.specs.Image.{row_in, schedule_in, part_in}

-- the n rows in bytes from `at` on
unfoldable pub rows_from : List ℕ → ℕ → ℕ → List Row
rows_from s at n = map row_in (chunks row_width n (drop at s))

-- the n schedules in bytes from `at` on
unfoldable pub schedules_from : List ℕ → ℕ → ℕ → List Schedule
schedules_from s at n = map schedule_in (chunks schedule_width n (drop at s))

-- the n guarantees in bytes from `at` on
unfoldable pub guarantees_from : List ℕ → ℕ → ℕ → List Cents
guarantees_from s at n = map (λ x. cents (number x)) (chunks guarantee_width n (drop at s))

-- the part that begins at `at`
abbrev pub part_at : ℕ → ℕ → List ℕ → ℕ → Part
part_at top operators s at = part_in top operators (take (part_size top) (drop at s))
