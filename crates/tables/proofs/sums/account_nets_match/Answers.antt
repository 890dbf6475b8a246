-- The first hour whose net position differs decides; where none was found, all agree if those that are left do.
use mathlib.Core.Path.{◌∙◌, sym}
use native.Mathlib.Omega.{arith}
use borrow.Author.Rules.{rules}
use Rattle.rules.proofs.Basics.CountingLaws.{every_done, every_next, every_fails}
use Rattle.tables.proofs.sums.account_nets_match.Goals as goal

pub loop-hour-preserved : goal.loop-hour-preserved
loop-hour-preserved c =
    (c.loop-hour.invariant.0, search rules, search rules, c.loop-hour.invariant.3 ∙ every_next _ _ _ _ (omega arith) (sym c.net_matches.ensures ∙ c.if-not-net_matches.false))

pub returns-then-not-net_matches : goal.returns-then-not-net_matches
returns-then-not-net_matches c =
    sym (c.loop-hour.invariant.3 ∙ every_fails _ _ _ (omega arith) (sym c.net_matches.ensures ∙ c.if-not-net_matches.true))

pub returns-else-not-net_matches : goal.returns-else-not-net_matches
returns-else-not-net_matches c =
    sym (c.loop-hour.invariant.3
    ∙ every_next _ _ 0 _ (omega arith) (sym c.net_matches.ensures ∙ c.if-not-net_matches.false)
    ∙ every_done _ 0 _ (omega arith))

pub returns : goal.returns
returns c = sym (c.loop-hour.invariant.3 ∙ every_done _ _ _ (omega arith))
