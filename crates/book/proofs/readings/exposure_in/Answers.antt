-- With nothing added the exposure worked out is the operator's.
use mathlib.Core.Path.{sym, ◌∙◌}
use native.Mathlib.Omega.{arith}
use Rattle.rules.specs.Basics.{nil}
use Rattle.book.proofs.StateLaws.{book_length}
use Rattle.book.proofs.ReadingLaws.{exposure-no_operator, exposure_stands}
use Rattle.book.proofs.WorthParts.{exposure_read}
use Rattle.book.proofs.readings.exposure_in.Goals as goal

pub counts-n-requires : goal.counts-n-requires
counts-n-requires c = omega (arith, book_length c.args.book.now c.requires)

pub returns-then-outside : goal.returns-then-outside
returns-then-outside c =
    sym (exposure-no_operator c.args.book.now c.requires c.counts-n.result c.counts-n.ensures c.args.operator
    (sym c.outside.ensures ∙ c.if-outside.true))

pub exposure_with-requires : goal.exposure_with-requires
exposure_with-requires c = (c.requires, nil)

pub returns : goal.returns
returns c =
    sym (exposure_stands c.args.book.now c.requires c.counts-n.result c.counts-n.ensures c.args.operator
    c.exposure_with.result (sym c.outside.ensures ∙ c.if-outside.false)
    (exposure_read c.args.book.now c.requires c.args.operator _ c.exposure_with.ensures.meaning))
