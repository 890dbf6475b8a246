-- The tests of guarantee are made in the order of their numbers, so that the first that fails is the refusal.
use Rattle.std.proofs.Common.{sym, ap, arith}
use Rattle.rules.specs.Requests.{guarantee}
use Rattle.rules.specs.Verdicts.{checked}
use Rattle.book.proofs.StateLaws.{book_is_sound}
use Rattle.book.proofs.Answers.{in_wrong_phase}
use Rattle.registration.proofs.GuaranteeLaws.{ready_guarantee, too_little_guarantee_in_force, enough_guarantee_in_force}
use Rattle.rules.specs.declared.phases.Phase.TheVariants.{Registration}
use Rattle.book.proofs.PhaseLaws.{other_phase, same_phase}
use Rattle.registration.proofs.guarantee.guarantee_fault.Goals as goal

pub returns-then-ne : goal.returns-then-ne
returns-then-ne c = ap checked (sym (in_wrong_phase _ _ guarantee (other_phase _ Registration c.phase.ensures c.ne.ensures c.if-ne.true)))

pub covered_under-requires : goal.covered_under-requires
covered_under-requires c =
    let r = ready_guarantee _ _ c.requires.ready in
    (c.requires.known_book, r.1, r.0)

pub returns-then-covered_under : goal.returns-then-covered_under
returns-then-covered_under c =
    let r = ready_guarantee _ _ c.requires.ready in
    let all = (book_is_sound _ c.requires.known_book).part_sound.guarantees_all in
    ap checked (sym (enough_guarantee_in_force _ _ (same_phase _ Registration c.phase.ensures c.ne.ensures c.if-ne.false) r.0.0 (omega (arith, r.0.1, all)) _ c.covered_under.ensures c.if-covered_under.true))

pub returns : goal.returns
returns c =
    let r = ready_guarantee _ _ c.requires.ready in
    let all = (book_is_sound _ c.requires.known_book).part_sound.guarantees_all in
    ap checked (sym (too_little_guarantee_in_force _ _ (same_phase _ Registration c.phase.ensures c.ne.ensures c.if-ne.false) r.0.0 (omega (arith, r.0.1, all)) _ c.covered_under.ensures c.if-covered_under.false))
