-- A strip is answered as one. Any other record that says nothing is refused; of one that says a request the kind decides, and only settle
-- is lent the rest.
use mathlib.Core.Path.{sym, ◌∙◌}
use native.Mathlib.Omega.{arith}
use Rattle.wire.proofs.NumberLaws.{bytes_known}
use Rattle.rules.specs.Limits.{most_hours, book_size}
use Rattle.image.proofs.Round.{book_is_sound}
use Rattle.rules.proofs.Checks.PassedOn.{passed_on}
use Rattle.day.proofs.RequestLaws.{other_kind, read_code}
use Rattle.day.proofs.CallLaws.{unread_given, said_given, strip-given, settle-given}
use Rattle.day.proofs.calls.change_in.Goals as goal

pub strip-requires : goal.strip-requires
strip-requires c =
    (book_is_sound most_hours book_size _ c.requires, sym c.is_strip.ensures ∙ c.if-is_strip.true)

pub returns-then-is_strip : goal.returns-then-is_strip
returns-then-is_strip c =
    let both = strip-given _ _ (sym c.is_strip.ensures ∙ c.if-is_strip.true) _ _ (c.strip.ensures.answer, (c.strip.ensures.bytes, c.strip.ensures.still)) in record { answer = both.0; still = both.1 }

pub settle-requires : goal.settle-requires
settle-requires c =
    book_is_sound most_hours book_size _ c.requires

pub returns-then-request-eq-SETTLE : goal.returns-then-request-eq-SETTLE
returns-then-request-eq-SETTLE c =
    let says = sym c.read.ensures ∙ c.in_ok-request.was in
    let bytes = bytes_known _ c.type_inv.bytes in
    let both = settle-given _ _ _ _ _ _ bytes says (omega arith) _ _ _ _ (c.settle.ensures.answer, c.settle.ensures.still) in record { answer = both.0; still = both.1 }

pub answer-requires : goal.answer-requires
answer-requires c =
    let says = sym c.read.ensures ∙ c.in_ok-request.was in
    let bytes = bytes_known _ c.type_inv.bytes in
    let plain = other_kind _ _ says (λ e. omega arith) in
    record { known_book = c.requires; plain_kind = (plain, read_code _ _ bytes says) }

pub returns-in_err-request : goal.returns-in_err-request
returns-in_err-request c =
    let single = sym c.is_strip.ensures ∙ c.if-is_strip.false in
    let both = unread_given _ _ (book_is_sound most_hours book_size _ c.requires) _ single (sym c.read.ensures ∙ c.in_err-request.was) in
    record { answer = rw (passed_on _ c.from_residual.ensures.1) both.0; still = both.1 }

pub returns : goal.returns
returns c =
    let says = sym c.read.ensures ∙ c.in_ok-request.was in
    let both = said_given _ _ (book_is_sound most_hours book_size _ c.requires) _ says (λ e. omega arith) _ _ (c.answer.ensures.answer, (c.answer.ensures.bytes, c.answer.ensures.still)) in record { answer = both.0; still = both.1 }
