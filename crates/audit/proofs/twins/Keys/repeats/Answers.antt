-- After each key, a key that was found so far or is among those left is among all.
use Prim.Native.Nat.{◌+◌, ◌-◌}
use mathlib.Core.Path.{sym, ◌∙◌}
use native.Mathlib.Omega.{arith}
use borrow.Author.Rules.{rules}
use Rattle.audit.specs.Twins.{key_at}
use Rattle.audit.proofs.TwinLaws.{among_done, among_step}
use Rattle.audit.proofs.twins.Keys.repeats.Goals as goal

pub loop-k-preserved : goal.loop-k-preserved
loop-k-preserved c = (
  search rules,
  c.loop-k.invariant.1 ∙ among_step c.loop-k.found c.args.self.now c.at-key.result c.loop-k.k (c.args.n - c.loop-k.k) (c.args.n - (c.loop-k.k + 1)) (omega arith),
)

pub returns : goal.returns
returns c =
    sym (rw c.at-key.ensures at c.loop-k.invariant.1 ∙ among_done c.loop-k.found c.args.self.now (key_at c.args.self.now c.args.i) c.loop-k.k (c.args.n - c.loop-k.k) (omega arith))
