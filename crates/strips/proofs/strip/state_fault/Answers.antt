-- The tests of a strip are made in rank, so that the first that fails is the refusal.
use Prim.Native.Nat.{◌-◌}
use mathlib.Core.Path.{sym, ◌∙◌}
use native.Mathlib.Omega.{arith}
use Rattle.rules.specs.Requests.{head_length}
use Rattle.strip_rows.proofs.RowSteps.{first_register, first_proposer}
use Rattle.strips.proofs.ReadyLaws.{requests_length}
use Rattle.strips.proofs.StandingLaws.{standing_found}
use Rattle.strips.proofs.DecidingLaws.{later_decides, standing_decides, twins_decide, no_room_decides}
use Rattle.rules.specs.declared.phases.Phase.TheVariants.{Registration}
use Rattle.book.proofs.PhaseLaws.{other_phase, same_phase}
use Rattle.strips.proofs.strip.state_fault.Goals as goal

pub returns-then-ne : goal.returns-then-ne
returns-then-ne c = later_decides _ _ (other_phase _ Registration c.phase.ensures c.ne.ensures c.if-ne.true)

pub row_request-first-requires : goal.row_request-first-requires
row_request-first-requires c =
    first_register _ head_length c.args.n (c.args.n - 1) (omega (arith, c.requires.1.is_strip.some_rows)) c.requires.1.is_strip.rows

pub any_is_alike-requires : goal.any_is_alike-requires
any_is_alike-requires c = (c.requires.0, c.requires.1.is_strip.rows)

pub returns-then-any_is_alike : goal.returns-then-any_is_alike
returns-then-any_is_alike c =
    let proposes = first_proposer _ head_length c.args.n (c.args.n - 1) (omega (arith, c.requires.1.is_strip.some_rows)) c.row_request-first.ensures in
    let stands = standing_found _ _ _ c.requires.1.one_proposer proposes c.any_is_alike.ensures in
    let in-phase = same_phase _ Registration c.phase.ensures c.ne.ensures c.if-ne.false in
    standing_decides _ _ in-phase (sym stands ∙ c.if-any_is_alike.true)

pub has_twins-requires : goal.has_twins-requires
has_twins-requires c = c.requires.1.is_strip.rows

pub returns-then-has_twins : goal.returns-then-has_twins
returns-then-has_twins c =
    let proposes = first_proposer _ head_length c.args.n (c.args.n - 1) (omega (arith, c.requires.1.is_strip.some_rows)) c.row_request-first.ensures in
    let stands = standing_found _ _ _ c.requires.1.one_proposer proposes c.any_is_alike.ensures in
    let in-phase = same_phase _ Registration c.phase.ensures c.ne.ensures c.if-ne.false in
    twins_decide _ _ in-phase (sym stands ∙ c.if-any_is_alike.false) (sym c.has_twins.ensures ∙ c.if-has_twins.true)

pub returns-then-row_count-n-gt-MOST_ROWS : goal.returns-then-row_count-n-gt-MOST_ROWS
returns-then-row_count-n-gt-MOST_ROWS c =
    let proposes = first_proposer _ head_length c.args.n (c.args.n - 1) (omega (arith, c.requires.1.is_strip.some_rows)) c.row_request-first.ensures in
    let stands = standing_found _ _ _ c.requires.1.one_proposer proposes c.any_is_alike.ensures in
    let in-phase = same_phase _ Registration c.phase.ensures c.ne.ensures c.if-ne.false in
    no_room_decides _ _ in-phase (sym stands ∙ c.if-any_is_alike.false) (sym c.has_twins.ensures ∙ c.if-has_twins.false)
    (omega (arith, c.row_count.ensures.meaning, requests_length c.args.bytes.now head_length c.args.n))

pub margin_or_exposure_fault-requires : goal.margin_or_exposure_fault-requires
margin_or_exposure_fault-requires c =
    let proposes = first_proposer _ head_length c.args.n (c.args.n - 1) (omega (arith, c.requires.1.is_strip.some_rows)) c.row_request-first.ensures in
    let stands = standing_found _ _ _ c.requires.1.one_proposer proposes c.any_is_alike.ensures in
    let in-phase = same_phase _ Registration c.phase.ensures c.ne.ensures c.if-ne.false in
    record {
      known_book = (c.requires.0, c.requires.1, proposes);
      addable = record {
        in_registration = in-phase;
        none_standing = sym stands ∙ c.if-any_is_alike.false;
        none_alike = sym c.has_twins.ensures ∙ c.if-has_twins.false;
        has_room = omega (arith, c.row_count.ensures.meaning, requests_length c.args.bytes.now head_length c.args.n);
      };
    }
