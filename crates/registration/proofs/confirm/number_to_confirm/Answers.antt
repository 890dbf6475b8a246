-- The tests of confirm are made in the order of their numbers, so that the first that fails is the refusal.
use Rattle.std.specs.Prelude.{None, Some}
use Rattle.std.proofs.Common.{sym, ◌∙◌}
use Rattle.rules.specs.Requests.{confirm}
use Rattle.rules.proofs.Checks.Clearing.{checked-same}
use Rattle.rules.proofs.Checks.PassedOn.{passed_on}
use Rattle.book.proofs.Answers.{in_wrong_phase}
use Rattle.registration.proofs.ConfirmLaws.{refusal_answers, acceptance_answers, number_of_some, names_no_row, names_other_terms}
use Rattle.rules.specs.declared.phases.Phase.TheVariants.{Registration}
use Rattle.book.proofs.PhaseLaws.{other_phase, same_phase}
use Rattle.registration.proofs.confirm.number_to_confirm.Goals as goal

pub returns-then-ne : goal.returns-then-ne
returns-then-ne c =
    refusal_answers _ _ _ (in_wrong_phase _ _ confirm (other_phase _ Registration c.phase.ensures c.ne.ensures c.if-ne.true))

pub returns-in_default : goal.returns-in_default
returns-in_default c =
    let first = same_phase _ Registration c.phase.ensures c.ne.ensures c.if-ne.false in
    names_no_row _ _ first (sym c.in_default.is ∙ c.confirmed_number-named.ensures.meaning)

pub returns-then-not-is_mirrored : goal.returns-then-not-is_mirrored
returns-then-not-is_mirrored c =
    let first = same_phase _ Registration c.phase.ensures c.ne.ensures c.if-ne.false in
    names_other_terms _ _ first _ _ (sym c.in-Some.is ∙ c.confirmed_number-named.ensures.meaning) c.numbered_row-row.ensures
    (sym c.is_mirrored.ensures ∙ c.if-not-is_mirrored.true)

pub returns-in_err-margin_or_exposure_fault : goal.returns-in_err-margin_or_exposure_fault
returns-in_err-margin_or_exposure_fault c =
    passed_on _ c.from_residual.ensures.1
    ∙ refusal_answers _ _ _ (checked-same _ (Some _) (sym c.margin_or_exposure_fault.ensures ∙ c.in_err-margin_or_exposure_fault.was))

pub returns : goal.returns
returns c =
    acceptance_answers _ _ _ (checked-same _ None (sym c.margin_or_exposure_fault.ensures ∙ c.in_ok-margin_or_exposure_fault.was))
    (number_of_some _ _ (sym c.in-Some.is ∙ c.confirmed_number-named.ensures.meaning))
