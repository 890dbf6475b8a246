-- The maintenance that is read is that of the book's set-up, and the test is the definition's.
use Rattle.std.proofs.Common.{ℕ, ◌-◌, ◌*◌, ap, ◌∙◌, arith}
use Rattle.rules.specs.Limits.{thousand}
use Rattle.book.proofs.BookRows.{setup_tabled}
use Rattle.registration.proofs.CoverLaws.{operators_read, maintenance_read, maintenance_high}
use Rattle.units.proofs.OrderLaws.{is_le-leb}
use Rattle.registration.proofs.cover.covered_by.Goals as goal

pub operator-entry-requires : goal.operator-entry-requires
operator-entry-requires c =
    ((setup_tabled _ c.requires.0).whole, c.requires.2.0, operators_read _ c.requires.0 _ c.requires.2)

pub available-limit-requires : goal.available-limit-requires
available-limit-requires c =
    let read = maintenance_read _ c.requires.0 c.args.number c.requires.2 _ c.operator-entry.ensures in
    let high = maintenance_high _ c.requires.0 c.args.number c.requires.2 in
    (c.requires.1, omega arith)

pub returns : goal.returns
returns c =
    let read = maintenance_read _ c.requires.0 c.args.number c.requires.2 _ c.operator-entry.ensures in
    let limit = c.available-limit.ensures.exact ∙ ap (λ (m : ℕ). c.args.guarantee.0 * (thousand - m)) read in
    c.le.ensures ∙ is_le-leb c.args.owed.0 c.available-limit.result.0 ∙ rw limit
