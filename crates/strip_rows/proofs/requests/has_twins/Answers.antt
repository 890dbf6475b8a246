-- Whether two of all rows are alike is whether two of those left are, where no row passed has its code among those behind it.
use Prim.Native.Nat.{◌+◌, ◌-◌}
use mathlib.Core.Path.{◌≡◌, sym, ◌∙◌}
use native.Mathlib.Omega.{arith}
use Rattle.rules.specs.Registration.{twins}
use Rattle.strip_rows.proofs.RowsFrom.{any_row}
use Rattle.strip_rows.proofs.RowSteps.{registers_next, requests_next, requests_done}
use Rattle.strip_rows.proofs.RequestLaws.{twins_here, twins_next}
use Rattle.strip_rows.proofs.requests.has_twins.Goals as goal

pub request_at-q-requires-clause-register : goal.request_at-q-requires-clause-register
request_at-q-requires-clause-register c = any_row _ _ c.args.n c.loop-i.i (omega arith) c.requires.registers

pub has_code-requires : goal.has_code-requires
has_code-requires c =
    registers_next _ c.args.at c.loop-i.i (c.args.n - c.loop-i.i) (c.args.n - c.loop-i.i - 1) (omega arith) c.loop-i.invariant.0

pub returns-then-has_code : goal.returns-then-has_code
returns-then-has_code c =
    let these = requests_next _ c.args.at c.loop-i.i (c.args.n - c.loop-i.i) (c.args.n - c.loop-i.i - 1) (omega arith) c.request_at-q.ensures.says in
    sym (c.loop-i.invariant.1 ∙ rw these (twins_here _ _ (sym c.has_code.ensures ∙ c.if-has_code.true)))

pub loop-i-preserved : goal.loop-i-preserved
loop-i-preserved c =
    let left = c.args.n - c.loop-i.i in
    let these = requests_next _ c.args.at c.loop-i.i left (left - 1) (omega arith) c.request_at-q.ensures.says in
    let fewer : c.args.n - (c.loop-i.i + 1) ≡ left - 1 = omega arith in
    rw fewer (
      registers_next _ c.args.at c.loop-i.i left (left - 1) (omega arith) c.loop-i.invariant.0,
      c.loop-i.invariant.1 ∙ rw these (twins_next _ _ (sym c.has_code.ensures ∙ c.if-has_code.false)),
    )

pub returns : goal.returns
unfolding twins
returns c = sym (c.loop-i.invariant.1 ∙ rw (requests_done _ _ (c.args.n - c.loop-i.i) (omega arith)))
