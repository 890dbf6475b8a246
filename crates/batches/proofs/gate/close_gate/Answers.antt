-- What was checked is what the state decides, and what is written is the book with no row pending, in the next phase.
use Rattle.rules.proofs.Checks.PassedOn.{passed_on}
use Prim.Native.Nat.{ℕ}
use mathlib.Core.Path.{refl, ap, ◌∙◌}
use mathlib.Core.List.{List}
use native.Mathlib.Omega.{arith}
use Rattle.wire.specs.Numbers.{le}
use Rattle.wire.specs.Regions.{splice}
use Rattle.rules.specs.Requests.{close_gate}
use Rattle.image.specs.Layout.{phase_offset}
use Rattle.book.proofs.StateLaws.{book_length}
use Rattle.book.proofs.Answers.{refused_all}
use Rattle.batches.proofs.Decisions.{nothing_decided, refused_for}
use Rattle.batches.proofs.Acceptances.{closed_answered}
use Rattle.batches.proofs.gate.close_gate.Goals as goal

pub returns-in_err-outside_batch : goal.returns-in_err-outside_batch
returns-in_err-outside_batch c =
    let both = refused_all close_gate _ _ c.requires (refused_for close_gate _ _ (λ q. c.outside_batch.ensures close_gate q refl) c.in_err-outside_batch.was) in
    record { answer = λ q. passed_on _ c.from_residual.ensures.1 ∙ both.0 q; bytes = both.1.0; still = both.1.1 }

pub end_rows-requires : goal.end_rows-requires
end_rows-requires c =
    let n = book_length _ c.requires in
    omega arith

pub put-requires : goal.put-requires
put-requires c =
    let n = book_length _ c.requires in
    omega arith

pub returns : goal.returns
returns c =
    let free = nothing_decided close_gate _ _ (λ q. c.outside_batch.ensures close_gate q refl) c.in_ok-outside_batch.was in
    let both = closed_answered _ _ c.requires _ free c.row_count-n.ensures.meaning
    (c.put.ensures ∙ ap (λ (x : List ℕ). splice x phase_offset (le 1 2)) c.end_rows.ensures) in record { answer = both.0; bytes = both.1.0; still = both.1.1 }
