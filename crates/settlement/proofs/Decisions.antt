-- What the state refuses a schedule for, test by test: the checks of other kinds vanish, and the first that is left and holds decides.
use Rattle.std.specs.Prelude.{Err, None, Some}
use Prim.Native.Nat.{◌≤◌, ◌<◌}
use mathlib.Core.Path.{◌≡◌, sym, ap}
use mathlib.Core.List.{[], ◌∷◌}
use lib.ListN.{length}
use borrow.Author.Tests.{eq-eqb, le-leb, lt-leb}
use Rattle.rules.specs.declared.Request.{Request}
use Rattle.rules.specs.declared.Refusal.TheVariants.{SchedulesFull}
use Rattle.rules.specs.Limits.{most_schedules}
use Rattle.rules.specs.Verdicts.{first_to_apply, checked}
use Rattle.rules.specs.Books.{Book}
use Rattle.rules.specs.Requests.{schedule}
use Rattle.rules.specs.Calls.{state_checks}
use Rattle.rules.proofs.Checks.Passed.{passed_20}
use Rattle.book.specs.Kinds.{decided}
use Rattle.book.proofs.Answers.{decided_clear}

module _ (b : Book) (q : Request) (second : b.phase ≡ 2) where
  -- 20
  pub no_place_left : most_schedules ≤ length b.schedules → decided schedule b q ≡ Some SchedulesFull
  unfolding decided state_checks first_to_apply
  no_place_left h = rw (eq-eqb _ 2 second, le-leb most_schedules (length b.schedules) h)

  -- which is what schedule answers then
  pub places_full : most_schedules ≤ length b.schedules → Err SchedulesFull ≡ checked (decided schedule b q)
  places_full h = ap checked (sym (no_place_left h))

  pub place_left : length b.schedules < most_schedules → decided schedule b q ≡ None
  unfolding decided state_checks first_to_apply
  place_left h = rw (eq-eqb _ 2 second, lt-leb most_schedules (length b.schedules) h)

-- an accepted schedule has a place
pub few_schedules : (b : Book) (q : Request) → decided schedule b q ≡ None → length b.schedules < most_schedules
few_schedules b q d = passed_20 b (q ∷ []) (decided_clear schedule b q d)
