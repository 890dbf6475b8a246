-- The first byte of an account's entry is its operator.
use mathlib.Core.Path.{◌∙◌, ap, sym}
use native.Mathlib.Omega.{arith}
use Rattle.rules.specs.declared.Counts.{Counts}
use Rattle.rules.specs.Books.{Account}
use Rattle.rules.specs.Opening.{setup_length, setup_of}
use Rattle.rules.proofs.Setups.SetupEntries.{account_at, account_inside, account_numbered, account_wide}
use Rattle.setup.proofs.entries.account_operator.Goals as goal

pub get-requires : goal.get-requires
get-requires c =
    let n = c.counts.result in let high = ap (λ (n : Counts). n.accounts) c.counts.ensures in
    omega (arith, c.account_offset.ensures.0, ap setup_length c.counts.ensures, account_wide n, account_inside n c.args.number c.requires.1 (omega (arith, c.requires.2)))

pub returns : goal.returns
unfolding setup_of
returns c =
    let high = ap (λ (n : Counts). n.accounts) c.counts.ensures in
    let entry = account_numbered _ _ c.counts.ensures _ c.account_offset.ensures.0 (sym (account_at _ _ _)) c.requires.1 (omega (arith, c.requires.2)) in
    c.get.ensures ∙ ap (λ (x : Account). x.operator) entry
