-- A schedule handed in, as it is written to the bytes of a book.
use Rattle.std.specs.Prelude.{ℕ, ◌+◌, ◌*◌, List}
use Rattle.wire.specs.Numbers.{le}
use Rattle.wire.specs.Regions.{splice}
use Rattle.rules.specs.declared.Schedule.{Schedule}
use Rattle.image.specs.Layout.{schedule_width, schedules_offset, schedule_count_offset}
use Rattle.image.specs.Image.{schedule_bytes}

-- the bytes with the schedule after the n that are there, and with the count of n + 1
abbrev pub schedule_appended : List ℕ → ℕ → Schedule → List ℕ
schedule_appended book n x = splice (splice book (schedules_offset + schedule_width * n) (schedule_bytes x)) schedule_count_offset (le 2 (n + 1))
