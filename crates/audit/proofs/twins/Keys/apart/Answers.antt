-- The keys passed so far, from the last one back, all differ, and each has left a 1 at its mark.
use Prim.Native.Nat.{◌+◌, ◌-◌}
use mathlib.Core.Path.{◌≡◌, sym, ◌∙◌}
use native.Mathlib.Nat.{zero-add}
use native.Mathlib.Omega.{arith}
use lib.ListN.{length-set}
use borrow.Author.Rules.{rules}
use Rattle.audit.proofs.TwinLaws.{none_marked, mark-more, unmarked, apart_done, apart_found, apart_next, apart_before}
use Rattle.audit.proofs.twins.Keys.apart.Goals as goal

pub loop-i-init : goal.loop-i-init
loop-i-init c = (search rules, search rules, apart_done _ _ _ (omega arith), none_marked _ _ _)

pub repeats_seen-requires : goal.repeats_seen-requires
repeats_seen-requires c = (
  search rules,
  search rules,
  λ z. unmarked c.args.self.now c.loop-i.i c.args.n c.loop-i.seen _ c.loop-i.invariant.3 (rw (c.mark-mark.ensures.0, c.at.ensures) at z) _ _ (omega arith) (omega arith),
)

pub returns-then-repeats_seen : goal.returns-then-repeats_seen
returns-then-repeats_seen c =
    let e : c.loop-i.i - 1 + (c.args.n - (c.loop-i.i - 1)) ≡ c.args.n = omega arith in
    let f = apart_found c.args.self.now (c.loop-i.i - 1) (c.args.n - (c.loop-i.i - 1)) (c.args.n - (c.loop-i.i - 1 + 1)) (omega arith) (rw (← c.repeats_seen.ensures) c.if-repeats_seen.true) in
    sym (rw e at (apart_before c.args.self.now (c.loop-i.i - 1) 0 (c.args.n - (c.loop-i.i - 1)) (rw zero-add f)))

pub loop-i-preserved : goal.loop-i-preserved
loop-i-preserved c =
    let e : c.loop-i.i ≡ c.loop-i.i - 1 + 1 = omega arith in (
      search rules,
      simp length-set (search rules),
      apart_next c.args.self.now (c.loop-i.i - 1) (c.args.n - (c.loop-i.i - 1)) (c.args.n - (c.loop-i.i - 1 + 1)) (omega arith) (rw (← c.repeats_seen.ensures) c.if-repeats_seen.false) ∙ rw (← e) c.loop-i.invariant.2,
      mark-more c.args.self.now (c.loop-i.i - 1) c.loop-i.i c.args.n c.loop-i.seen _ e (rw c.at.ensures at c.mark-mark.ensures.0) (search rules) c.loop-i.invariant.3,
    )
