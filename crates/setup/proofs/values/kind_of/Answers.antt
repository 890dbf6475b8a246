-- The account's entry is read at its place; a number that no account has gives the kind of none, 0.
use mathlib.Core.Path.{◌∙◌, ap, sym}
use native.Mathlib.Omega.{arith}
use Rattle.rules.specs.Books.{Account}
use Rattle.rules.proofs.Setups.SetupEntries.{account_at, account_wide, account_inside, account_numbered, no_account_past}
use Rattle.setup.proofs.values.kind_of.Goals as goal

pub returns-then-n-number : goal.returns-then-n-number
returns-then-n-number c =
    ap (λ (x : Account). x.kind) (sym (no_account_past _ _ c.requires.counted _ c.if-n-number.true))

pub get-requires : goal.get-requires
get-requires c =
    omega (arith, c.requires.whole, c.account_offset.ensures.0, account_wide c.args.n, account_inside c.args.n c.args.number (omega arith) (omega arith))

pub returns : goal.returns
returns c =
    let entry = account_numbered _ _ c.requires.counted _ c.account_offset.ensures.0 (sym (account_at _ _ _)) (omega arith) (omega arith) in
    c.get.ensures ∙ ap (λ (x : Account). x.kind) entry
