-- The first account whose net positions differ decides; where none was found, all agree if those that are left do.
use mathlib.Core.Path.{◌∙◌, sym, refl}
use native.Mathlib.Omega.{arith}
use borrow.Author.Rules.{rules}
use Rattle.rules.proofs.Basics.CountingLaws.{every_done, every_next, every_fails}
use Rattle.tables.specs.Sums.{nets_stored}
use Rattle.tables.proofs.sums.nets_match.Goals as goal

pub loop-account-init : goal.loop-account-init
unfolding nets_stored
loop-account-init c = (search rules, search rules, refl)

pub loop-account-preserved : goal.loop-account-preserved
loop-account-preserved c =
    (search rules, search rules, c.loop-account.invariant.2 ∙ every_next _ _ _ _ (omega arith) (sym c.account_nets_match.ensures ∙ c.if-not-account_nets_match.false))

pub returns-then-not-account_nets_match : goal.returns-then-not-account_nets_match
returns-then-not-account_nets_match c =
    sym (c.loop-account.invariant.2 ∙ every_fails _ _ _ (omega arith) (sym c.account_nets_match.ensures ∙ c.if-not-account_nets_match.true))

pub returns : goal.returns
returns c = sym (c.loop-account.invariant.2 ∙ every_done _ _ _ (omega arith))
