-- Its bytes come first, then its requests against the counts of the book, then the state; a strip that nothing refuses is written.
use Rattle.std.specs.Prelude.{None, Some}
use mathlib.Core.Path.{refl, sym, ◌∙◌}
use native.Mathlib.Omega.{arith}
use Rattle.rules.proofs.Checks.Clearing.{checked-same}
use Rattle.rules.proofs.Checks.PassedOn.{passed_on}
use Rattle.book.proofs.StateLaws.{book_length}
use Rattle.strips.specs.Ready.{strip_requests}
use Rattle.strips.proofs.CallLaws.{read_strip, requests_found, in_range_ready, strip_bytes_refused, strip_input_refused, strip_state_refused, strip-step, refused-strip, accepted-strip}
use Rattle.strips.proofs.strip.strip.Goals as goal

pub returns-in_err-strip_fault : goal.returns-in_err-strip_fault
returns-in_err-strip_fault c =
    let why = checked-same _ (Some _) (sym c.strip_fault.ensures ∙ c.in_err-strip_fault.was) in
    let both = refused-strip _ _ _ c.requires.0 (λ x e. strip_bytes_refused _ x _ _ e c.requires.1 refl _ why) in record { answer = λ x e. passed_on _ c.from_residual.ensures.1 ∙ both.0 x e; bytes = both.1.0; still = both.1.1 }

pub row_count-n-requires : goal.row_count-n-requires
row_count-n-requires c =
    let read = checked-same _ None (sym c.strip_fault.ensures ∙ c.in_ok-strip_fault.was) in
    let w = (read_strip _ _ refl read).rows.inside in omega arith

pub counts-requires : goal.counts-requires
counts-requires c = let n = book_length _ c.requires.0 in omega arith

pub requests_fault-requires : goal.requests_fault-requires
requests_fault-requires c =
    let read = checked-same _ None (sym c.strip_fault.ensures ∙ c.in_ok-strip_fault.was) in
    read_strip _ _ c.row_count-n.ensures read

pub returns-in_err-requests_fault : goal.returns-in_err-requests_fault
returns-in_err-requests_fault c =
    let read = checked-same _ None (sym c.strip_fault.ensures ∙ c.in_ok-strip_fault.was) in
    let why = requests_found _ c.requires.0 _ (strip_requests c.args.bytes.now c.row_count-n.result) _ (Some _) c.counts.ensures c.requests_fault.ensures c.in_err-requests_fault.was in
    let both = refused-strip _ _ _ c.requires.0 (λ x e. strip_input_refused _ x _ _ e c.requires.1 c.row_count-n.ensures read _ why) in record { answer = λ x e. passed_on _ c.from_residual-in_err-requests_fault.ensures.1 ∙ both.0 x e; bytes = both.1.0; still = both.1.1 }

pub state_fault-requires : goal.state_fault-requires
state_fault-requires c =
    let read = checked-same _ None (sym c.strip_fault.ensures ∙ c.in_ok-strip_fault.was) in
    let strip-of = read_strip _ _ c.row_count-n.ensures read in
    let fine = requests_found _ c.requires.0 _ (strip_requests c.args.bytes.now c.row_count-n.result) _ None c.counts.ensures c.requests_fault.ensures c.in_ok-requests_fault.was in
    let ready = in_range_ready _ _ _ strip-of fine in
    (c.requires.0, ready)

pub returns-in_err-state_fault : goal.returns-in_err-state_fault
returns-in_err-state_fault c =
    let read = checked-same _ None (sym c.strip_fault.ensures ∙ c.in_ok-strip_fault.was) in
    let fine = requests_found _ c.requires.0 _ (strip_requests c.args.bytes.now c.row_count-n.result) _ None c.counts.ensures c.requests_fault.ensures c.in_ok-requests_fault.was in
    let why = checked-same _ (Some _) (sym c.state_fault.ensures ∙ c.in_err-state_fault.was) in
    let both = refused-strip _ _ _ c.requires.0 (λ x e. strip_state_refused _ x _ _ e c.requires.1 c.row_count-n.ensures read fine _ why) in record { answer = λ x e. passed_on _ c.from_residual-in_err-state_fault.ensures.1 ∙ both.0 x e; bytes = both.1.0; still = both.1.1 }

pub accept-requires : goal.accept-requires
accept-requires c =
    let read = checked-same _ None (sym c.strip_fault.ensures ∙ c.in_ok-strip_fault.was) in
    let strip-of = read_strip _ _ c.row_count-n.ensures read in
    let fine = requests_found _ c.requires.0 _ (strip_requests c.args.bytes.now c.row_count-n.result) _ None c.counts.ensures c.requests_fault.ensures c.in_ok-requests_fault.was in
    let ready = in_range_ready _ _ _ strip-of fine in
    let free = checked-same _ None (sym c.state_fault.ensures ∙ c.in_ok-state_fault.was) in
    record { known_book = (c.requires.0, ready); nothing_refuses = free }

pub returns : goal.returns
returns c =
    let read = checked-same _ None (sym c.strip_fault.ensures ∙ c.in_ok-strip_fault.was) in
    let fine = requests_found _ c.requires.0 _ (strip_requests c.args.bytes.now c.row_count-n.result) _ None c.counts.ensures c.requests_fault.ensures c.in_ok-requests_fault.was in
    let free = checked-same _ None (sym c.state_fault.ensures ∙ c.in_ok-state_fault.was) in
    let both = accepted-strip _ _ _ _ _ (c.accept.ensures.answer, (c.accept.ensures.bytes, c.accept.ensures.still))
    (λ x e. strip-step _ x _ _ e c.requires.1 c.row_count-n.ensures read fine free) in record { answer = both.0; bytes = both.1.0; still = both.1.1 }
