-- The steps of the replay, strung together, print the replay: what stands at an offset is the first of the items from there on.
use Rattle.std.specs.Prelude.{if◌then◌else◌, Option, None, Some}
use Prim.Native.Nat.{ℕ, suc}
use mathlib.Core.Path.{◌≡◌, refl, ap, ◌∙◌}
use mathlib.Core.List.{List, [], ◌∷◌, ◌++◌}
use mathlib.Core.Bool.{Bool, true, false}
use lib.ListN.{length, drop}
use lib.Dec.{ltb}
use Rattle.rules.specs.declared.Refusal.{Refusal}
use Rattle.rules.specs.Limits.{longest_stream}
use Rattle.rules.specs.Books.{Book}
use Rattle.rules.specs.Opening.{setup_refusal}
use Rattle.rules.specs.Replay.{Line, items, calls, opened_lines, day, replay, text, long}
use Rattle.items.specs.declared.Found.{Found}
use Rattle.items.specs.declared.Found.TheVariants.{Whole, Cut, End}
use Rattle.items.specs.Stream.{found_at}
use Rattle.items.proofs.StreamLaws.{items_of, items_found}
use Rattle.items.proofs.SettledLaws.{text-append}
use Rattle.replaying.specs.Steps.{Step, ends_after, item_in, open_step, first_step, beginning, item_step, step_at, lines_from, lines_on}

-- the lines of a step and of all that follow it, the next item having the number n
abbrev with_rest : ℕ → List ℕ → Step → List Line
with_rest n s x = x.lines ++ lines_on n s x.onward

-- ---- one item

item_go : (b : Book) (n : ℕ) (s : List ℕ) (f : Found) → calls b n (items_of s f) ≡ with_rest (suc n) s (item_step b n s f)
unfolding calls items_of item_step lines_from lines_on
item_go b n s End = refl
item_go b n s Cut = refl
item_go b n s (Whole from end) = refl

-- the lines from an item on are its own and those from the next on
pub lines_step : (b : Book) (n : ℕ) (s : List ℕ) (at : ℕ) → lines_from b n s at ≡ with_rest (suc n) s (step_at b n s at)
unfolding lines_from step_at
lines_step b n s at = rw (items_found s at) (item_go b n s (found_at s at))

-- ---- the beginning

opened_go : (s setup : List ℕ) (end : ℕ) (r : Option Refusal) → opened_lines setup (items (drop end s)) r ≡ with_rest 1 s (open_step setup end r)
unfolding open_step lines_from lines_on
opened_go s setup end (Some r) = refl
opened_go s setup end None = refl

first_go : (s : List ℕ) (f : Found) → day (items_of s f) ≡ with_rest 1 s (first_step s f)
unfolding day items_of first_step lines_on
first_go s End = refl
first_go s Cut = refl
first_go s (Whole from end) = opened_go s (item_in s from end) end (setup_refusal (item_in s from end))

begin_go : (s : List ℕ) (t : Bool)
    → (if t then long ∷ [] else day (items s)) ≡ with_rest 1 s (if t then ends_after (long ∷ []) else first_step s (found_at s 0))
unfolding lines_on
begin_go s true = refl
begin_go s false = ap day (items_found s 0) ∙ first_go s (found_at s 0)

-- the replay is the lines of the beginning and those from item 1 on
pub replay_begins : (s : List ℕ) → replay s ≡ with_rest 1 s (beginning s)
unfolding replay beginning
replay_begins s = begin_go s (ltb longest_stream (length s))

-- ---- the same of the text

pub text_begins : (s : List ℕ) → text (replay s) ≡ text (beginning s).lines ++ text (lines_on 1 s (beginning s).onward)
text_begins s = rw (replay_begins s) (text-append (beginning s).lines (lines_on 1 s (beginning s).onward))

pub text-step : (b : Book) (n : ℕ) (s : List ℕ) (at : ℕ)
    → text (lines_from b n s at) ≡ text (step_at b n s at).lines ++ text (lines_on (suc n) s (step_at b n s at).onward)
text-step b n s at = rw (lines_step b n s at) (text-append (step_at b n s at).lines (lines_on (suc n) s (step_at b n s at).onward))
