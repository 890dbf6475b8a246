-- Each check is put to all rows before the next: the first that finds a row decides.
use mathlib.Core.Path.{sym, ap, ◌∙◌}
use Rattle.std.proofs.Common.{of_calls}
use Rattle.std.proofs.iter.Serving.{serving}
use Rattle.rules.specs.Verdicts.{checked}
use Rattle.rules.specs.Requests.{head_length}
use Rattle.rules.proofs.Checks.PassedOn.{passed_on}
use Rattle.strip_rows.specs.Rows.{row_of}
use Rattle.strip_rows.specs.Passes.{readable_check, register_check, mapped_check}
use Rattle.strip_rows.proofs.Passes.{rows_checked, row_refused, rows_passed, found_2, found_3, found_4, row_readable}
use Rattle.strip_rows.proofs.record.rows_fault.Goals as goal

pub returns-in_err-first_fault : goal.returns-in_err-first_fault
returns-in_err-first_fault c =
    let readable = c.first_fault.ensures _ (λ i low t post. search of_calls) in
    passed_on _ c.from_residual.ensures.1 ∙ sym (ap checked (found_2 _ (row_refused readable_check _ _ _ readable c.in_err-first_fault.was)))

pub returns-in_err-first_fault-2 : goal.returns-in_err-first_fault-2
returns-in_err-first_fault-2 c =
    let readable = c.first_fault.ensures _ (λ i low t post. search of_calls) in
    let registers = c.first_fault-2.ensures _ (λ i low t post. search of_calls) in
    let first = rows_passed readable_check _ _ _ readable c.in_ok-first_fault.was in
    let found = row_refused register_check _ _ _ registers c.in_err-first_fault-2.was in
    passed_on _ c.from_residual-in_err-first_fault-2.ensures.1 ∙ sym (ap checked (found_3 _ first found))

pub first_fault-requires-3 : goal.first_fault-requires-3
first_fault-requires-3 c i low =
    let readable = c.first_fault.ensures (λ i. readable_check (row_of c.args.bytes.now head_length i)) (λ i low t post. search of_calls) in
    let it = row_readable c.args.bytes.now head_length c.args.n i low (rows_passed readable_check _ _ _ readable c.in_ok-first_fault.was) in
    grind (serving, it)

pub returns : goal.returns
returns c =
    let readable = c.first_fault.ensures _ (λ i low t post. search of_calls) in
    let registers = c.first_fault-2.ensures _ (λ i low t post. search of_calls) in
    let mapped = c.first_fault-3.ensures _ (λ i low t post. search of_calls) in
    let first = rows_passed readable_check _ _ _ readable c.in_ok-first_fault.was in
    let second = rows_passed register_check _ _ _ registers c.in_ok-first_fault-2.was in
    rows_checked mapped_check _ _ _ mapped ∙ sym (ap checked (found_4 _ first second))
