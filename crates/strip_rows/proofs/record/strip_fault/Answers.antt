-- Each test of the code is that of a check, in the order of the checks.
use Rattle.std.specs.Prelude.{None, Some}
use Rattle.rules.proofs.Checks.PassedOn.{passed_on}
use Prim.Native.Nat.{◌+◌, ◌*◌}
use mathlib.Core.Path.{◌≡◌, sym, ap, ◌∙◌}
use lib.ListN.{length}
use borrow.Author.Tests.{not-true, not-false}
use Rattle.rules.specs.Verdicts.{checked}
use Rattle.rules.specs.Requests.{head_length, row_length, strip_count}
use Rattle.rules.proofs.Checks.Clearing.{checked-same}
use Rattle.strip_rows.proofs.StripLaws.{head_short, count_outside, fails_2, fails_4, fails_5, fails_21, rows_decide}
use Rattle.strip_rows.proofs.record.strip_fault.Goals as goal

pub returns-then-no_map : goal.returns-then-no_map
returns-then-no_map c = sym (ap checked (fails_2 c.args.bytes.now (sym c.no_map.ensures ∙ c.if-no_map.true)))

pub returns-in_err-map_fault : goal.returns-in_err-map_fault
returns-in_err-map_fault c = passed_on _ c.from_residual.ensures.1 ∙ (let fine = sym c.no_map.ensures ∙ c.if-no_map.false in
    sym (ap checked (fails_4 c.args.bytes.now fine _ (checked-same _ (Some _) (sym c.map_fault.ensures ∙ c.in_err-map_fault.was)))))

pub returns-then-bytes-lt-HEAD_LENGTH : goal.returns-then-bytes-lt-HEAD_LENGTH
returns-then-bytes-lt-HEAD_LENGTH c =
    let fine = sym c.no_map.ensures ∙ c.if-no_map.false in
    let mapped = checked-same _ None (sym c.map_fault.ensures ∙ c.in_ok-map_fault.was) in
    sym (ap checked (fails_5 c.args.bytes.now fine mapped (head_short c.args.bytes.now c.if-bytes-lt-HEAD_LENGTH.true)))

pub returns-then-bytes-n : goal.returns-then-bytes-n
returns-then-bytes-n c =
    let fine = sym c.no_map.ensures ∙ c.if-no_map.false in
    let mapped = checked-same _ None (sym c.map_fault.ensures ∙ c.in_ok-map_fault.was) in
    sym (ap checked (fails_5 c.args.bytes.now fine mapped (rw c.row_count-n.ensures at c.if-bytes-n.true)))

pub returns-then-n : goal.returns-then-n
returns-then-n c =
    let fine = sym c.no_map.ensures ∙ c.if-no_map.false in
    let mapped = checked-same _ None (sym c.map_fault.ensures ∙ c.in_ok-map_fault.was) in
    let sized : length c.args.bytes.now
    ≡ head_length + row_length * strip_count c.args.bytes.now =
    rw (← c.row_count-n.ensures) c.if-bytes-n.false in
    let outside = rw (c.row_count-n.ensures, count_outside (strip_count c.args.bytes.now)) at c.if-n.true in
    sym (ap checked (fails_21 c.args.bytes.now fine mapped sized (not-true _ outside)))

pub returns : goal.returns
returns c =
    let fine = sym c.no_map.ensures ∙ c.if-no_map.false in
    let mapped = checked-same _ None (sym c.map_fault.ensures ∙ c.in_ok-map_fault.was) in
    let sized : length c.args.bytes.now
    ≡ head_length + row_length * strip_count c.args.bytes.now =
    rw (← c.row_count-n.ensures) c.if-bytes-n.false in
    let inside = rw (c.row_count-n.ensures, count_outside (strip_count c.args.bytes.now)) at c.if-n.false in
    c.rows_fault.ensures
    ∙ rw c.row_count-n.ensures (sym (ap checked (rows_decide c.args.bytes.now fine mapped sized (not-false _ inside))))
