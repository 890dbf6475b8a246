-- The phase first, then whether its ask stands: nothing else can refuse it in a book.
use mathlib.Core.Path.{refl, sym, ap, ◌∙◌}
use Rattle.rules.specs.Limits.{most_hours, book_size}
use Rattle.rules.specs.Requests.{commit}
use Rattle.rules.specs.Verdicts.{checked}
use Rattle.image.proofs.Round.{book_is_sound}
use Rattle.book.proofs.Answers.{in_wrong_phase}
use Rattle.registration.proofs.RegisterLaws.{ready_proposes}
use Rattle.asks.proofs.PlaceLaws.{proposer_placed}
use Rattle.asks.proofs.CommitLaws.{asks_stand_lem, commit_clear, no_standing_ask}
use Rattle.rules.specs.declared.phases.Phase.TheVariants.{Registration}
use Rattle.book.proofs.PhaseLaws.{other_phase, same_phase}
use Rattle.asks.proofs.commit.commit_fault.Goals as goal

pub phase-requires : goal.phase-requires
phase-requires c = book_is_sound most_hours book_size _ c.requires.known_book

pub returns-then-ne : goal.returns-then-ne
returns-then-ne c = ap checked (sym (in_wrong_phase _ _ commit (other_phase _ Registration c.phase.ensures c.ne.ensures c.if-ne.true)))

pub stands-requires : goal.stands-requires
stands-requires c =
    let sound = book_is_sound most_hours book_size _ c.requires.known_book in
    let placed = proposer_placed _ sound _ (ready_proposes commit _ _ refl c.requires.ready) in
    (sound, rw c.proposed_row-row.ensures placed.0, rw c.proposed_row-row.ensures placed.1)

pub returns-then-stands : goal.returns-then-stands
returns-then-stands c =
    let sound = book_is_sound most_hours book_size _ c.requires.known_book in
    let placed = proposer_placed _ sound _ (ready_proposes commit _ _ refl c.requires.ready) in
    let asked = rw c.proposed_row-row.ensures at (sym c.stands.ensures ∙ c.if-stands.true) in
    ap checked (sym (commit_clear _ _ (asks_stand_lem _ c.requires.known_book) placed.1 asked))

pub returns : goal.returns
returns c =
    let sound = book_is_sound most_hours book_size _ c.requires.known_book in
    let placed = proposer_placed _ sound _ (ready_proposes commit _ _ refl c.requires.ready) in
    let asked = rw c.proposed_row-row.ensures at (sym c.stands.ensures ∙ c.if-stands.false) in
    ap checked (sym (no_standing_ask _ _ (asks_stand_lem _ c.requires.known_book) placed.1 (same_phase _ Registration c.phase.ensures c.ne.ensures c.if-ne.false) asked))
