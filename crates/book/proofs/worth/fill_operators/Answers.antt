-- The entries before that of the account are the operators of the accounts before it.
use mathlib.Core.Path.{ap, ◌∙◌}
use native.Mathlib.Omega.{arith}
use Rattle.rules.specs.declared.Counts.{Counts}
use Rattle.book.proofs.StateLaws.{book_length, book_is_sound}
use Rattle.book.proofs.WorthParts.{listed_first, accounts_in_lem}
use Rattle.book.proofs.worth.fill_operators.Goals as goal

pub counts-n-requires : goal.counts-n-requires
counts-n-requires c = omega (arith, book_length _ c.requires.1)

pub loop-number-init : goal.loop-number-init
loop-number-init c =
    let accounts = ap (λ (n : Counts). n.accounts) c.counts-n.ensures ∙ accounts_in_lem _ c.requires.1 in
    (accounts, omega (arith, accounts, (book_is_sound _ c.requires.1).setup_sound.accounts_high), omega arith, omega arith, listed_first _ _ _ c.requires.0)
