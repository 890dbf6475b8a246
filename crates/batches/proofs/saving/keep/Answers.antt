-- What was checked is what the state decides, and what is written is the book with nothing saved.
use Rattle.rules.proofs.Checks.PassedOn.{passed_on}
use mathlib.Core.Path.{◌∙◌, refl}
use Rattle.rules.specs.Requests.{keep}
use Rattle.book.proofs.StateLaws.{book_length}
use Rattle.book.proofs.Answers.{refused_all}
use Rattle.batches.proofs.Decisions.{finds_batch, nothing_decided, refused_for}
use Rattle.batches.proofs.Acceptances.{kept_answered}
use Rattle.batches.proofs.BatchLaws.{saved_rows_end}
use Rattle.batches.proofs.saving.keep.Goals as goal

pub returns-in_err-inside_batch : goal.returns-in_err-inside_batch
returns-in_err-inside_batch c =
    let both = refused_all keep _ _ c.requires (refused_for keep _ _ (λ q. c.inside_batch.ensures keep q refl) c.in_err-inside_batch.was) in
    record { answer = λ q. passed_on _ c.from_residual.ensures.1 ∙ both.0 q; bytes = both.1.0; still = both.1.1 }

pub saved_row_count-saved-requires : goal.saved_row_count-saved-requires
saved_row_count-saved-requires c =
    let batch = finds_batch keep _ _ (λ q. c.inside_batch.ensures keep q refl) refl c.in_ok-inside_batch.was in
    record { known_book = c.requires; batch_open = batch }

pub end_batch-requires : goal.end_batch-requires
end_batch-requires c =
    let batch = finds_batch keep _ _ (λ q. c.inside_batch.ensures keep q refl) refl c.in_ok-inside_batch.was in
    record { whole_book = book_length _ c.requires; rows_end = saved_rows_end _ c.requires batch _ c.saved_row_count-saved.ensures.meaning }

pub returns : goal.returns
returns c =
    let free = nothing_decided keep _ _ (λ q. c.inside_batch.ensures keep q refl) c.in_ok-inside_batch.was in
    let both = kept_answered _ _ c.requires free c.end_batch.ensures in record { answer = both.0; bytes = both.1.0; still = both.1.1 }
