-- The margins are tested first and then the exposure, both with every row in, as the refusals are ranked.
use mathlib.Core.Path.{sym, ◌∙◌}
use Rattle.strips.specs.Ready.{strip_requests}
use Rattle.wire.proofs.NumberLaws.{bytes_known}
use Rattle.strips.proofs.ReadyLaws.{proposer_known, proposed-pending}
use Rattle.strips.proofs.DecidingLaws.{margin_decides, covered_decides, uncovered_decides}
use Rattle.strips.proofs.strip.margin_or_exposure_fault.Goals as goal

pub broken_with-requires : goal.broken_with-requires
broken_with-requires c =
    let bytes = bytes_known _ c.type_inv.bytes in
    (c.requires.known_book.0, rw c.requires.known_book.2 (proposer_known _ _ _ bytes c.requires.known_book.1), c.fill_all_waits.ensures.whole)

pub returns-in-Some : goal.returns-in-Some
returns-in-Some c =
    let pending-rows = proposed-pending (strip_requests c.args.bytes.now c.args.n) in
    let searched = (rw c.requires.known_book.2 at (c.broken_with.ensures _ pending-rows (rw c.requires.known_book.2 c.fill_all_waits.ensures))) in
    margin_decides _ _ c.requires.addable _ (sym c.in-Some.is ∙ searched)

pub returns-then-covered_with_strip : goal.returns-then-covered_with_strip
returns-then-covered_with_strip c =
    let pending-rows = proposed-pending (strip_requests c.args.bytes.now c.args.n) in
    let searched = (rw c.requires.known_book.2 at (c.broken_with.ensures _ pending-rows (rw c.requires.known_book.2 c.fill_all_waits.ensures))) in
    covered_decides _ _ c.requires.addable (sym c.in_default.is ∙ searched) _ (rw c.requires.known_book.2 at c.covered_with_strip.ensures) c.if-covered_with_strip.true

pub returns : goal.returns
returns c =
    let pending-rows = proposed-pending (strip_requests c.args.bytes.now c.args.n) in
    let searched = (rw c.requires.known_book.2 at (c.broken_with.ensures _ pending-rows (rw c.requires.known_book.2 c.fill_all_waits.ensures))) in
    uncovered_decides _ _ c.requires.addable (sym c.in_default.is ∙ searched) _ (rw c.requires.known_book.2 at c.covered_with_strip.ensures) c.if-covered_with_strip.false
