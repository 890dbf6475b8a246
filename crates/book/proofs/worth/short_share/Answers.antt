-- The account's operator decides whether the account is one of the operator's.
use mathlib.Core.Path.{sym, ◌∙◌}
use native.Mathlib.Omega.{arith}
use Rattle.book.proofs.ShortLaws.{short_of_own, short_of_others}
use Rattle.book.proofs.WorthParts.{operator_listed}
use Rattle.book.proofs.worth.short_share.Goals as goal

pub bounds-operators-account : goal.bounds-operators-account
bounds-operators-account c = operator_listed _ _ _ c.requires.0.is_sound c.requires.0.account_operators c.requires.1

pub account_short-requires : goal.account_short-requires
account_short-requires c = (c.requires.0.is_sound, c.requires.1, c.requires.2)

pub returns-then-operators-account : goal.returns-then-operators-account
returns-then-operators-account c =
    let own = c.requires.0.account_operators.operator _ c.requires.1.0 c.requires.1.1 in
    record { meaning = c.account_short.ensures.meaning ∙ sym (short_of_own _ _ _ _ _ own c.if-operators-account.true); bounded = c.account_short.ensures.bounded }

pub returns : goal.returns
returns c =
    let own = c.requires.0.account_operators.operator _ c.requires.1.0 c.requires.1.1 in
    record { meaning = sym (short_of_others _ _ _ _ _ own c.if-operators-account.false); bounded = omega arith }
