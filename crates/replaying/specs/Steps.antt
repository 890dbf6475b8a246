-- The stream replayed item by item (document 01, "Replay"): what the beginning prints and what each later item prints, and with what the
-- replay then goes on. That the steps strung together are the replay is said by the laws of proofs/ReplayLaws.antt.
use Rattle.std.specs.Prelude.{ℕ, ◌-◌, List, [], ◌∷◌, length, take, drop, ltb, if◌then◌else◌, Option, None, Some}
use Rattle.rules.specs.declared.Refusal.{Refusal}
use Rattle.rules.specs.Limits.{longest_stream}
use Rattle.rules.specs.Verdicts.{numbers, refused, accepted}
use Rattle.rules.specs.Books.{Book}
use Rattle.rules.specs.Opening.{setup_refusal, opened}
use Rattle.rules.specs.Calls.{step}
use Rattle.rules.specs.Replay.{Line, answered, cut, long, items, call_of, answer_lines, calls}
use Rattle.items.specs.declared.Found.{Found}
use Rattle.items.specs.declared.Found.TheVariants.{Whole, Cut, End}
use Rattle.items.specs.Stream.{found_at}

-- the book that the replay goes on with, and where the next item begins
pub record Onward : Type 0 where
  pub book : Book
  pub at : ℕ

-- the lines that a step prints, and how the replay goes on; none where it ends
pub record Step : Type 0 where
  pub lines : List Line
  pub onward : Option Onward

-- the replay ends after these lines
abbrev pub ends_after : List Line → Step
ends_after lines = record { lines = lines; onward = None }

-- the replay goes on after these lines
abbrev pub goes_on_after : List Line → Book → ℕ → Step
goes_on_after lines b at = record { lines = lines; onward = Some (record { book = b; at = at }) }

-- the bytes of an item
abbrev pub item_in : List ℕ → ℕ → ℕ → List ℕ
item_in s from end = take (end - from) (drop from s)

-- ---- the beginning: item 0 is the set-up

-- a refused set-up ends the replay after its line
unfoldable pub open_step : List ℕ → ℕ → Option Refusal → Step
open_step setup end (Some r) = ends_after (answered 0 (numbers (refused r)) ∷ [])
open_step setup end None = goes_on_after (answered 0 (numbers (accepted 0)) ∷ []) (opened setup) end

-- by what is found at the front of the stream: nothing prints nothing
unfoldable pub first_step : List ℕ → Found → Step
first_step s End = ends_after []
first_step s Cut = ends_after (cut 0 ∷ [])
first_step s (Whole from end) = open_step (item_in s from end) end (setup_refusal (item_in s from end))

-- a stream over 65,536 bytes prints `long` only
unfoldable pub beginning : List ℕ → Step
beginning s = if ltb longest_stream (length s) then ends_after (long ∷ []) else first_step s (found_at s 0)

-- ---- the items after it

-- item n, by what is found there, on a book: its call is answered; one that is cut short ends the replay
unfoldable pub item_step : Book → ℕ → List ℕ → Found → Step
item_step b n s End = ends_after []
item_step b n s Cut = ends_after (cut n ∷ [])
item_step b n s (Whole from end) =
    let c = call_of (item_in s from end) in goes_on_after (answer_lines n b c) (step b c).book end

-- item n, which begins at an offset of the stream
unfoldable pub step_at : Book → ℕ → List ℕ → ℕ → Step
step_at b n s at = item_step b n s (found_at s at)

-- ---- what is left of the replay

-- the lines of all items from an offset on, of which the first has the number n
unfoldable pub lines_from : Book → ℕ → List ℕ → ℕ → List Line
lines_from b n s at = calls b n (items (drop at s))

-- the same after a step
unfoldable pub lines_on : ℕ → List ℕ → Option Onward → List Line
lines_on n s None = []
lines_on n s (Some o) = lines_from o.book n s o.at
