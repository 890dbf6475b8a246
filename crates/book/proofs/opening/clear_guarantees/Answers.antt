-- Clearing the guarantees that are left, after those cleared so far, comes to clearing all of them.
use Prim.Native.Nat.{◌+◌, ◌-◌, ◌*◌}
use mathlib.Core.Path.{◌≡◌, sym, ◌∙◌}
use native.Mathlib.Omega.{arith}
use borrow.Author.Rules.{rules}
use Rattle.rules.specs.Opening.{operator_entry}
use Rattle.book.specs.Fresh.{guarantees_cleared}
use Rattle.book.proofs.OpeningLaws.{guarantees_cleared_done, guarantees_cleared_step}
use Rattle.book.proofs.opening.clear_guarantees.Goals as goal

pub loop-i-preserved : goal.loop-i-preserved
loop-i-preserved c =
    let place = c.args.from + operator_entry * c.loop-i.i in
    let next : place + operator_entry ≡ c.args.from + operator_entry * (c.loop-i.i + 1) = omega arith in
    let step : guarantees_cleared c.args.s.now c.args.from c.args.n ≡ guarantees_cleared c.put.new.s (place + operator_entry) (c.args.n - (c.loop-i.i + 1)) =
    c.loop-i.invariant.2 ∙ guarantees_cleared_step _ _ _ (c.args.n - (c.loop-i.i + 1)) (omega arith) ∙ rw c.put.ensures in
    (search rules, search rules, rw next at step)

pub returns : goal.returns
returns c = sym (c.loop-i.invariant.2 ∙ guarantees_cleared_done _ _ _ (omega arith))
