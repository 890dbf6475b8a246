-- A schedule handed in: its 11 bytes with the count are all that is written, and they make the image of the next book.
use Rattle.std.specs.Prelude.{None}
use Prim.Native.Nat.{ℕ, ◌+◌, ◌*◌}
use mathlib.Core.Path.{◌≡◌, refl, ap, ◌∙◌}
use mathlib.Core.List.{List, [], ◌∷◌}
use mathlib.Core.Bool.{true}
use native.Mathlib.Omega.{arith}
use lib.ListN.{length}
use Rattle.rules.specs.declared.Request.{Request}
use Rattle.rules.specs.Limits.{most_hours, book_size}
use Rattle.rules.specs.Verdicts.{accepted}
use Rattle.rules.specs.Requests.{schedule}
use Rattle.rules.specs.Calls.{scheduled, given}
use Rattle.image.specs.Layout.{schedule_width, schedules_offset}
use Rattle.image.specs.Valid.{is_sound, book_in}
use Rattle.image.proofs.Writing.BookWrites.{write_schedule}
use Rattle.image.proofs.Keeping.KeepsChanges.{apply_keeps}
use Rattle.image.proofs.Keeping.KeepsKinds.{schedule_allowed}
use Rattle.book.specs.Kinds.{decided, Ready}
use Rattle.book.proofs.StateLaws.{book_image, book_fits, book_is_sound}
use Rattle.book.proofs.Answers.{decided_clear, Answered, accepted_answered}
use Rattle.book.proofs.Readiness.{bare, ready_asked, ready_input}
use Rattle.settlement.specs.Scheduling.{schedule_appended}
use Rattle.settlement.proofs.Decisions.{few_schedules}

-- what an accepted schedule writes
pub scheduled_answered : (s t : List ℕ) (h : is_sound s ≡ true) (q : Request) (n : ℕ) → Ready schedule (book_in s) q
    → decided schedule (book_in s) q ≡ None → n ≡ length (book_in s).schedules
    → t ≡ schedule_appended s n (scheduled q)
    → Answered schedule s q (accepted (n + 1)) t
unfolding given
scheduled_answered s t h q n r d e w =
    let few = few_schedules (book_in s) q d in
    accepted_answered schedule s q h t (n + 1) d (omega (arith, e))
    (w
    ∙ ap (λ (x : List ℕ). schedule_appended x n (scheduled q)) (book_image s h)
    ∙ write_schedule most_hours book_size (book_in s) (book_fits s h) (scheduled q) n (schedules_offset + schedule_width * n) e (omega (arith, e, few)) refl)
    (apply_keeps _ (book_in s) (book_is_sound s h)
    (schedule_allowed (book_in s) (q ∷ []) (book_is_sound s h) bare (ready_asked schedule (book_in s) q r refl) (ready_input schedule (book_in s) q r bare refl) (decided_clear schedule (book_in s) q d)))
