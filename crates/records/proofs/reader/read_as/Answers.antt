-- The map and the length are compared with the tables, and what passes both is a whole record.
use Rattle.std.specs.Prelude.{None, Some}
use mathlib.Core.Path.{◌∙◌, sym}
use native.Mathlib.Omega.{arith}
use Rattle.rules.proofs.Checks.Clearing.{checked-same}
use Rattle.rules.proofs.Checks.PassedOn.{passed_on}
use Rattle.rules.proofs.Records.RoundTrip.{reads, record_ends}
use Rattle.records.proofs.ReadingLaws.{reads_other_map, reads_other_length, reads_on}
use Rattle.records.proofs.reader.read_as.Goals as goal

pub returns-in_err-map_fault : goal.returns-in_err-map_fault
returns-in_err-map_fault c =
    passed_on _ c.from_residual.ensures.1
    ∙ reads_other_map c.args.bytes.now c.args.kind c.requires.0 c.requires.1 c.requires.2 (checked-same _ (Some _) (sym c.map_fault.ensures ∙ c.in_err-map_fault.was))

pub returns-then-bytes-wanted_length : goal.returns-then-bytes-wanted_length
returns-then-bytes-wanted_length c =
    let mapped = checked-same _ None (sym c.map_fault.ensures ∙ c.in_ok-map_fault.was) in
    reads_other_length c.args.bytes.now c.args.kind c.requires.0 c.requires.1 c.requires.2 mapped (λ e. c.if-bytes-wanted_length.true (e ∙ sym c.wanted_length.ensures))

pub request-requires : goal.request-requires
request-requires c =
    let mapped = checked-same _ None (sym c.map_fault.ensures ∙ c.in_ok-map_fault.was) in
    let whole =
    reads_on c.args.bytes.now c.args.kind c.requires.0 c.requires.1 c.requires.2 mapped (c.if-bytes-wanted_length.false ∙ c.wanted_length.ensures) in
    omega (arith, record_ends c.args.bytes.now whole)

pub returns : goal.returns
returns c =
    let mapped = checked-same _ None (sym c.map_fault.ensures ∙ c.in_ok-map_fault.was) in
    let whole =
    reads_on c.args.bytes.now c.args.kind c.requires.0 c.requires.1 c.requires.2 mapped (c.if-bytes-wanted_length.false ∙ c.wanted_length.ensures) in
    rw c.request.ensures (sym (reads c.args.bytes.now whole))
