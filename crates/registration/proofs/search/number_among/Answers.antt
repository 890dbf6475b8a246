-- The number found among all rows is that found among the rows that are left, counted on from those that were passed.
use Rattle.std.proofs.Common.{◌≡◌, ◌+◌, ◌-◌, ◌*◌, sym, ◌∙◌, arith}
use Rattle.image.specs.Layout.{row_width}
use Rattle.registration.proofs.PendingLaws.{none_passed, number_none, number_here, number-next}
use Rattle.registration.proofs.search.number_among.Goals as goal

pub loop-passed-init : goal.loop-passed-init
loop-passed-init c = none_passed _ _ _ _ _ _ (omega arith) (omega arith)

pub returns-then-alike_at : goal.returns-then-alike_at
returns-then-alike_at c =
    number_here _ _ _ (c.args.n - c.loop-passed.passed) _ _ c.loop-passed.invariant (c.args.n - (c.loop-passed.passed + 1)) (omega arith)
    (sym c.alike_at.ensures ∙ c.if-alike_at.true)

pub loop-passed-preserved : goal.loop-passed-preserved
loop-passed-preserved c =
    let next : c.args.at + row_width * (c.loop-passed.passed + 1) ≡ c.args.at + row_width * c.loop-passed.passed + row_width = omega arith in
    rw next (number-next _ _ _ (c.args.n - c.loop-passed.passed) _ _ c.loop-passed.invariant (c.args.n - (c.loop-passed.passed + 1)) (omega arith)
    (sym c.alike_at.ensures ∙ c.if-alike_at.false))

pub returns : goal.returns
returns c = number_none _ _ _ _ _ _ c.loop-passed.invariant (omega arith)
