-- The account's entry names its operator, and that is one of the book's.
use mathlib.Core.Path.{◌∙◌, ap, sym}
use native.Mathlib.Omega.{arith}
use Rattle.rules.specs.Books.{Setup, operator_of}
use Rattle.book.proofs.StateLaws.{book_is_sound}
use Rattle.book.proofs.BookRows.{setup_tabled, setup_in_lem, accounts_read, caller_operator}
use Rattle.book.proofs.state.operator_of.Goals as goal

pub account_operator-requires : goal.account_operator-requires
account_operator-requires c =
    ((setup_tabled _ c.requires.0).whole, c.requires.1.0, (accounts_read _ c.requires.0 _ c.requires.1.1).0)

pub returns : goal.returns
returns c =
    let same = c.account_operator.ensures ∙ sym (ap (λ (u : Setup). operator_of u c.args.number) (setup_in_lem _ c.requires.0)) in
    let caller = caller_operator _ c.args.number c.requires.0 c.requires.1 in
    let few = (book_is_sound _ c.requires.0).setup_sound.operators_high in
    record { meaning = same; inside = (omega (arith, same, caller.0), omega (arith, same, caller.1)); bounded = omega (arith, same, caller.1, few) }
