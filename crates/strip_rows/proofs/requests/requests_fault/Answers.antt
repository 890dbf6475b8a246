-- The first request has the proposer, so that the two checks are those of all requests.
use Prim.Native.Nat.{◌-◌}
use Rattle.std.proofs.Common.{of_calls}
use Rattle.std.proofs.iter.Serving.{serving}
use native.Mathlib.Omega.{arith}
use mathlib.Core.Path.{ap, ◌∙◌}
use Rattle.rules.specs.Requests.{head_length, request_of}
use Rattle.rules.specs.Strips.{IsRegister}
use Rattle.rules.proofs.Checks.PassedOn.{passed_on}
use Rattle.strip_rows.specs.Rows.{row_of}
use Rattle.strip_rows.specs.Passes.{range_check, accounts_check}
use Rattle.strip_rows.proofs.RowsFrom.{any_row}
use Rattle.strip_rows.proofs.Passes.{requests_checked}
use Rattle.strip_rows.proofs.RowSteps.{row_numbered, first_proposer}
use Rattle.strip_rows.proofs.RequestLaws.{range_refused, accounts_decide}
use Rattle.strip_rows.proofs.requests.requests_fault.Goals as goal

pub request_at-first-requires-clause-register : goal.request_at-first-requires-clause-register
request_at-first-requires-clause-register c = any_row _ _ c.args.n 0 (omega (arith, c.requires.some_rows)) c.requires.rows.registers

pub first_fault-requires : goal.first_fault-requires
first_fault-requires c i low =
    let it : IsRegister (row_of c.args.bytes.now head_length i) = any_row _ _ _ i low c.requires.rows.registers in
    grind (serving, it)

pub returns-in_err-first_fault : goal.returns-in_err-first_fault
returns-in_err-first_fault c =
    let first = c.request_at-first.ensures.says ∙ ap request_of (row_numbered c.args.bytes.now head_length 0) in
    let proposes = first_proposer c.args.bytes.now head_length c.args.n (c.args.n - 1) (omega (arith, c.requires.some_rows)) first in
    let fields = c.first_fault.ensures _ (λ i low t post. search of_calls) in
    let known = requests_checked (range_check c.args.counts c.request_at-first.result.account) _ _ _ fields in
    passed_on _ c.from_residual.ensures.1 ∙ range_refused _ _ proposes known c.in_err-first_fault.was

pub first_fault-requires-2 : goal.first_fault-requires-2
first_fault-requires-2 c i low =
    let it : IsRegister (row_of c.args.bytes.now head_length i) = any_row _ _ _ i low c.requires.rows.registers in
    grind (serving, it)

pub returns : goal.returns
returns c =
    let first = c.request_at-first.ensures.says ∙ ap request_of (row_numbered c.args.bytes.now head_length 0) in
    let proposes = first_proposer c.args.bytes.now head_length c.args.n (c.args.n - 1) (omega (arith, c.requires.some_rows)) first in
    let fields = c.first_fault.ensures _ (λ i low t post. search of_calls) in
    let accounts = c.first_fault-2.ensures _ (λ i low t post. search of_calls) in
    let known = requests_checked (range_check c.args.counts c.request_at-first.result.account) _ _ _ fields in
    accounts_decide _ _ proposes known c.in_ok-first_fault.was (requests_checked accounts_check _ _ _ accounts)
