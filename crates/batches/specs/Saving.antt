-- What kinds 5 to 8 are refused for, and what opening and ending a batch writes (document 01, "Registration"; docs/LAYOUT.md).
use Rattle.std.specs.Prelude.{ℕ, ◌≡◌, List, true}
use Rattle.wire.specs.Numbers.{le}
use Rattle.wire.specs.Regions.{splice}
use Rattle.rules.specs.declared.Request.{Request}
use Rattle.rules.specs.Limits.{most_hours}
use Rattle.rules.specs.Verdicts.{checked, Checked}
use Rattle.rules.specs.Books.{Book}
use Rattle.rules.specs.Requests.{Kind}
use Rattle.rules.specs.Calls.{◌one_of◌}
use Rattle.image.specs.Layout.{flag_offset, present_offset, saved_offset}
use Rattle.book.specs.Kinds.{decided}
use Rattle.batches.specs.Rooms.{part_copied, part_cleared}

-- ---- what is wrong with a call

-- each of these kinds is refused for that fault on the book, whatever the request says; or for none
abbrev pub FaultOfEach : List Kind → Book → Checked → Type 0
FaultOfEach kinds b fault = (k : Kind) (q : Request) → k one_of kinds ≡ true → fault ≡ checked (decided k b q)

-- ---- what is written

-- a batch opened: the present part copied over the saved one, and the flag set
abbrev pub batch_opened : List ℕ → List ℕ
batch_opened s = splice (part_copied s present_offset (saved_offset most_hours)) flag_offset (le 1 1)

-- a batch ended: the saved part and the flag cleared
abbrev pub batch_ended : List ℕ → List ℕ
batch_ended s = splice (part_cleared s (saved_offset most_hours)) flag_offset (le 1 0)
