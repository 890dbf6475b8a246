-- A set-up longer than its room does not stand. Opening accepts the bytes that the counts say where the set-up stands; then the other two
-- tests decide.
use mathlib.Core.Path.{sym, ap, ◌∙◌}
use native.Mathlib.Omega.{arith}
use lib.Seq.{length-take-le}
use Rattle.wire.proofs.NumberLaws.{bytes_known}
use Rattle.rules.specs.Opening.{setup_length}
use Rattle.audit.proofs.ValidityLaws.{refused_setup, accepted_setup}
use Rattle.audit.proofs.whole.setup_valid.Goals as goal

pub slice_bounds-is_accepted-end : goal.slice_bounds-is_accepted-end
slice_bounds-is_accepted-end c =
    sym (length-take-le _ _ (omega (arith, c.requires)))

pub returns-then-not-is_accepted : goal.returns-then-not-is_accepted
returns-then-not-is_accepted c =
    refused_setup _ (bytes_known _ c.type_inv.book) c.requires _ (c.length_of-size.ensures ∙ ap setup_length c.counts-n.ensures)
    (sym c.is_accepted.ensures ∙ c.if-not-is_accepted.true)

pub returns : goal.returns
returns c =
    accepted_setup _ (bytes_known _ c.type_inv.book) c.requires _ (c.length_of-size.ensures ∙ ap setup_length c.counts-n.ensures)
    (sym c.is_accepted.ensures ∙ c.if-not-is_accepted.false)
    (c.no_guarantees.ensures ∙ rw (c.operators_offset-from.ensures, c.counts-n.ensures)) c.all_zero.ensures
