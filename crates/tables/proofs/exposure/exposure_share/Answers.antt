-- The account that was read says whose it is.
use mathlib.Core.Path.{◌∙◌, sym}
use Rattle.tables.proofs.ExposureLaws.{share_of_own, share_of_others}
use borrow.Author.Rules.{rules}
use Rattle.tables.proofs.exposure.exposure_share.Goals as goal

pub returns-then-account_operator-operator : goal.returns-then-account_operator-operator
returns-then-account_operator-operator c =
    record { meaning = (λ rows sums. c.account_exposure.ensures.meaning rows sums ∙ sym (share_of_own _ rows _ _ c.account_operator.ensures c.if-account_operator-operator.true)); bounded = search rules }

pub returns : goal.returns
returns c =
    record { meaning = (λ rows sums. sym (share_of_others _ rows _ _ c.account_operator.ensures c.if-account_operator-operator.false)); bounded = search rules }
