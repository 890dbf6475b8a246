-- After each number, what was tested so far and the test of the numbers that are left together are the test of all.
use mathlib.Core.Path.{sym, ◌∙◌}
use native.Mathlib.Omega.{arith}
use borrow.Author.Rules.{rules}
use Rattle.audit.proofs.CheckLaws.{passed_next, passed_all}
use Rattle.audit.proofs.checks.all_pass.Goals as goal

pub loop-i-preserved : goal.loop-i-preserved
loop-i-preserved g c =
    (search rules, λ p same. c.loop-i.invariant.1 p same ∙ passed_next p c.loop-i.ok c.test-ok.result _ _ c.loop-i.i (omega arith) (same c.loop-i.i (omega arith) _ c.test-ok.ensures))

pub returns : goal.returns
returns g c p same = sym (c.loop-i.invariant.1 p same ∙ passed_all p c.loop-i.ok _ c.loop-i.i (omega arith))
