-- Each of the four sums is read from its own lane.
use mathlib.Core.Path.{◌∙◌}
use Rattle.tables.proofs.sums.account_hour.Goals as goal

pub returns : goal.returns
returns c rows sums =
    let b = c.sum_at.ensures ∙ sums.bought_at _ _ c.requires.1 in
    let s = c.sum_at-2.ensures ∙ sums.sold_at _ _ c.requires.1 in
    let x = c.sum_at-3.ensures ∙ sums.sales_at _ _ c.requires.1 in
    let y = c.sum_at-4.ensures ∙ sums.purchases_at _ _ c.requires.1 in
    rw (b, s, x, y)
