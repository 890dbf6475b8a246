-- What was checked is what the state decides, and what is written is the book as it was saved, with nothing saved any more.
use Rattle.rules.proofs.Checks.PassedOn.{passed_on}
use mathlib.Core.Path.{refl, ap, ◌∙◌}
use mathlib.Core.Logic.{inr}
use native.Mathlib.Omega.{arith}
use Rattle.rules.specs.Requests.{undo}
use Rattle.book.proofs.StateLaws.{book_length}
use Rattle.book.proofs.Answers.{refused_all}
use Rattle.batches.specs.Saving.{batch_ended}
use Rattle.batches.proofs.Decisions.{finds_batch, nothing_decided, refused_for}
use Rattle.batches.proofs.Acceptances.{undone_answered}
use Rattle.batches.proofs.BatchLaws.{present_rows_end, saved_rows_end, saved_past_present, saved_room_left}
use Rattle.batches.proofs.saving.undo.Goals as goal

pub returns-in_err-inside_batch : goal.returns-in_err-inside_batch
returns-in_err-inside_batch c =
    let both = refused_all undo _ _ c.requires (refused_for undo _ _ (λ q. c.inside_batch.ensures undo q refl) c.in_err-inside_batch.was) in
    record { answer = λ q. passed_on _ c.from_residual.ensures.1 ∙ both.0 q; bytes = both.1.0; still = both.1.1 }

pub saved_row_count-saved-requires : goal.saved_row_count-saved-requires
saved_row_count-saved-requires c =
    let batch = finds_batch undo _ _ (λ q. c.inside_batch.ensures undo q refl) refl c.in_ok-inside_batch.was in
    record { known_book = c.requires; batch_open = batch }

pub copy_part-requires : goal.copy_part-requires
copy_part-requires c =
    let batch = finds_batch undo _ _ (λ q. c.inside_batch.ensures undo q refl) refl c.in_ok-inside_batch.was in
    let n = book_length _ c.requires in
    record { has_part = (omega arith, omega arith, inr (omega arith)); rows_end = (c.row_count-rows.ensures.bounded, saved_past_present _ c.requires batch _ c.row_count-rows.ensures.meaning, present_rows_end _ c.requires _ c.row_count-rows.ensures.meaning) }

pub end_batch-requires : goal.end_batch-requires
end_batch-requires c =
    let batch = finds_batch undo _ _ (λ q. c.inside_batch.ensures undo q refl) refl c.in_ok-inside_batch.was in
    let n = book_length _ c.requires in
    let (few, room) = saved_rows_end _ c.requires batch _ c.saved_row_count-saved.ensures.meaning in
    record { whole_book = omega arith; rows_end = (few, saved_room_left _ _ _ n few room c.copy_part.ensures) }

pub returns : goal.returns
returns c =
    let free = nothing_decided undo _ _ (λ q. c.inside_batch.ensures undo q refl) c.in_ok-inside_batch.was in
    let both = undone_answered _ _ c.requires _ free (rw (c.row_count-rows.ensures.meaning, c.saved_row_count-saved.ensures.meaning))
    (c.end_batch.ensures ∙ ap batch_ended c.copy_part.ensures) in record { answer = both.0; bytes = both.1.0; still = both.1.1 }
