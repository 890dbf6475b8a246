-- The book that bytes say, each field read at its own place: a section is what stands after those before it.
use Prim.Native.Nat.{ℕ, ◌*◌}
use mathlib.Core.Path.{◌≡◌, ap, ◌∙◌}
use mathlib.Core.List.{List, [], map}
use native.Mathlib.Omega.{arith}
use lib.ListN.{get_or, take, drop}
use Rattle.wire.specs.Numbers.{number, number_at}
use Rattle.wire.specs.Parts.{cut, chunks, start_of}
use Rattle.wire.proofs.NumberLaws.{number_at_one}
use Rattle.wire.proofs.PartLaws.{cut_at}
use Rattle.rules.specs.declared.Counts.{Counts}
use Rattle.rules.specs.Basics.{entries}
use Rattle.rules.specs.Limits.{most_accounts, most_schedules}
use Rattle.rules.specs.Books.{Book, operator_count}
use Rattle.rules.specs.Opening.{counts_in, setup_of}
use Rattle.rules.proofs.Setups.SetupEntries.{counts_of_setup}
use Rattle.image.specs.Layout.{setup_room, row_width, schedule_width, part_size, asks_size, book_widths, phase_offset, flag_offset, schedule_count_offset, schedules_offset, present_offset, saved_offset, asks_offset, setup_section, phase_section, flag_section, schedule_count_section, schedules_section, present_section, saved_section, asks_section}
use Rattle.image.specs.Image.{ask_in, schedule_in, saved_in, book_of, decode}
use Rattle.image.specs.Cells.{part_at}
use Rattle.image.proofs.Setups.SetupAgain.{counts_first_bytes}

-- each field at its place
abbrev pub book_at : ℕ → List ℕ → Book
book_at top s =
    record {
      setup = setup_of (take setup_room s);
      phase = get_or s phase_offset 0;
      part = part_at top (counts_in s).operators s present_offset;
      schedules = map schedule_in (chunks schedule_width (number_at s schedule_count_offset 2) (take (schedule_width * most_schedules) (drop schedules_offset s)));
      saved = saved_in (get_or s flag_offset 0) top (counts_in s).operators (take (part_size top) (drop (saved_offset top) s));
      asks = map ask_in (chunks row_width most_accounts (take asks_size (drop (asks_offset top) s)));
    }

-- the counts stand at the front
pub counts_at : (s : List ℕ) → operator_count (setup_of (take setup_room s)) ≡ (counts_in s).operators
counts_at s = ap (λ (c : Counts). c.operators) (counts_of_setup (take setup_room s) ∙ counts_first_bytes setup_room s (omega arith))

pub decode_places : (top size : ℕ) (s : List ℕ) → decode top size s ≡ book_at top s
unfolding decode book_of entries number_at
decode_places top size s =
    let ws : List ℕ = book_widths top size in
    let at : start_of ws saved_section ≡ saved_offset top = omega arith in
    let asks_at : start_of ws asks_section ≡ asks_offset top = omega arith in
    let phase : number (get_or (cut ws s) phase_section []) ≡ get_or s phase_offset 0 = ap number (cut_at ws s phase_section) ∙ number_at_one s phase_offset in
    let flag : number (get_or (cut ws s) flag_section []) ≡ get_or s flag_offset 0 = ap number (cut_at ws s flag_section) ∙ number_at_one s flag_offset in
    let saved : get_or (cut ws s) saved_section [] ≡ take (part_size top) (drop (saved_offset top) s) = cut_at ws s saved_section ∙ ap (λ (k : ℕ). take (part_size top) (drop k s)) at in
    let asks : get_or (cut ws s) asks_section [] ≡ take asks_size (drop (asks_offset top) s) = cut_at ws s asks_section ∙ ap (λ (k : ℕ). take asks_size (drop k s)) asks_at in
    rw (phase, flag, cut_at ws s setup_section, cut_at ws s schedule_count_section, cut_at ws s schedules_section, cut_at ws s present_section, saved, asks, counts_at s)
