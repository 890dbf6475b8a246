-- The three tests are those of the rules, with what is used up read off the table.
use mathlib.Core.Path.{◌∙◌}
use native.Mathlib.Omega.{arith}
use Rattle.book.proofs.StateLaws.{book_length}
use Rattle.valuation.proofs.CongruityLaws.{point_in_cells, price_stands, result_judged}
use Rattle.valuation.proofs.congruity.result_of.Goals as goal

pub counts-n-requires : goal.counts-n-requires
counts-n-requires c = omega (arith, book_length _ c.requires.priced.is_sound)

pub over_point-over_point-requires : goal.over_point-over_point-requires
over_point-over_point-requires c =
    (c.requires.on_point.1, point_in_cells _ c.requires.priced.is_sound _ c.requires.on_point.0.in_range)

pub is_taken-taken-requires : goal.is_taken-taken-requires
is_taken-taken-requires c =
    price_stands _ c.requires.priced.is_sound _ c.requires.on_point.0.in_range _ c.requires.priced _ _ c.counts-n.ensures c.requires.on_point.0.its_point

pub returns : goal.returns
returns c =
    let judged = result_judged _ _ _ _ c.requires.priced c.requires.on_point.0.in_range _ _ c.counts-n.ensures c.requires.on_point.0.its_point
    c.over_point-over_point.ensures c.over_account-over_account.ensures c.is_taken-taken.ensures in
    λ before by each. c.ranked_result.ensures ∙ judged before by each
