-- Copying the guarantees that are left, after those copied so far, comes to copying all of them.
use Prim.Native.Nat.{◌+◌, ◌-◌, ◌*◌}
use mathlib.Core.Path.{◌≡◌, sym, ◌∙◌}
use native.Mathlib.Omega.{arith}
use borrow.Author.Rules.{rules}
use Rattle.rules.specs.Opening.{guarantee_width, operator_entry}
use Rattle.book.specs.Fresh.{guarantees_put}
use Rattle.book.proofs.OpeningLaws.{guarantees_put_done, guarantees_put_step}
use Rattle.book.proofs.opening.put_guarantees.Goals as goal

pub loop-i-preserved : goal.loop-i-preserved
loop-i-preserved c =
    let at = c.args.to + guarantee_width * c.loop-i.i in
    let place = c.args.from + operator_entry * c.loop-i.i in
    let left = c.args.n - (c.loop-i.i + 1) in
    let to : at + guarantee_width ≡ c.args.to + guarantee_width * (c.loop-i.i + 1) = omega arith in
    let from : place + operator_entry ≡ c.args.from + operator_entry * (c.loop-i.i + 1) = omega arith in
    let step : guarantees_put c.args.book.now c.args.to c.args.setup.now c.args.from c.args.n
    ≡ guarantees_put c.copy_in.new.dst (at + guarantee_width) c.args.setup.now (place + operator_entry) left =
    c.loop-i.invariant.2 ∙ guarantees_put_step _ _ _ _ _ left (place + guarantee_width - place) (omega arith) (omega arith) ∙ rw c.copy_in.ensures in
    (search rules, search rules, rw (to, from) at step)

pub returns : goal.returns
returns c = sym (c.loop-i.invariant.2 ∙ guarantees_put_done _ _ _ _ _ (omega arith))
