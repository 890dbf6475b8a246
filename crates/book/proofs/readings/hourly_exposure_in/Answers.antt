-- The hour is tested before the operator.
use mathlib.Core.Path.{sym, ◌∙◌}
use native.Mathlib.Omega.{arith}
use Rattle.book.proofs.StateLaws.{book_length}
use Rattle.book.proofs.ReadingLaws.{hourly_no_hour, hourly_hour_inside, hourly-no_operator, hourly_stands}
use Rattle.book.proofs.readings.hourly_exposure_in.Goals as goal

pub counts-n-requires : goal.counts-n-requires
counts-n-requires c = omega (arith, book_length c.args.book.now c.requires)

pub returns-then-outside : goal.returns-then-outside
returns-then-outside c =
    sym (hourly_no_hour c.args.book.now c.requires c.counts-n.result c.counts-n.ensures c.args.operator c.args.hour
    (sym c.outside.ensures ∙ c.if-outside.true))

pub returns-then-outside-2 : goal.returns-then-outside-2
returns-then-outside-2 c =
    sym (hourly-no_operator c.args.book.now c.requires c.counts-n.result c.counts-n.ensures c.args.operator c.args.hour
    (sym c.outside.ensures ∙ c.if-outside.false) (sym c.outside-2.ensures ∙ c.if-outside-2.true))

pub hourly_exposure-requires : goal.hourly_exposure-requires
hourly_exposure-requires c = (
  c.requires,
  hourly_hour_inside c.args.book.now c.requires c.counts-n.result c.counts-n.ensures c.args.operator c.args.hour
      (sym c.outside.ensures ∙ c.if-outside.false),
)

pub returns : goal.returns
returns c =
    sym (hourly_stands c.args.book.now c.requires c.counts-n.result c.counts-n.ensures c.args.operator c.args.hour
    (sym c.outside.ensures ∙ c.if-outside.false) c.hourly_exposure.result (sym c.outside-2.ensures ∙ c.if-outside-2.false)
    c.hourly_exposure.ensures)
