-- What was checked is what the state decides, and what is written is the book with its present part saved.
use mathlib.Core.Path.{◌∙◌, refl}
use Rattle.rules.specs.Requests.{open_batch}
use Rattle.rules.proofs.Checks.PassedOn.{passed_on}
use Rattle.book.proofs.Answers.{refused_all}
use Rattle.batches.proofs.Decisions.{nothing_decided, refused_for}
use Rattle.batches.proofs.Acceptances.{opened_answered}
use Rattle.batches.proofs.saving.open_batch.Goals as goal

pub returns-in_err-outside_batch : goal.returns-in_err-outside_batch
returns-in_err-outside_batch c =
    let both = refused_all open_batch _ _ c.requires (refused_for open_batch _ _ (λ q. c.outside_batch.ensures open_batch q refl) c.in_err-outside_batch.was) in
    record { answer = λ q. passed_on _ c.from_residual.ensures.1 ∙ both.0 q; bytes = both.1.0; still = both.1.1 }

pub returns : goal.returns
returns c =
    let free = nothing_decided open_batch _ _ (λ q. c.outside_batch.ensures open_batch q refl) c.in_ok-outside_batch.was in
    let both = opened_answered _ _ c.requires free c.save.ensures in record { answer = both.0; bytes = both.1.0; still = both.1.1 }
