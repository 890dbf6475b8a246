-- The account's operator decides whether the account is one of the operator's.
use Rattle.rules.specs.Basics.{nil}
use Rattle.book.proofs.WorthParts.{operator_listed}
use Rattle.book.proofs.hourly.short_of_account.Goals as goal

pub bounds-operators-account : goal.bounds-operators-account
bounds-operators-account c = operator_listed _ _ _ c.requires.0.is_sound c.requires.0.account_operators c.requires.2

pub short_at-requires : goal.short_at-requires
short_at-requires c = (c.requires.0.is_sound, c.requires.2, c.requires.1, nil)
