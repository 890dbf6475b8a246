-- Strips on any bytes: a strip of one record answers as that register, and an accepted strip leaves the bytes that its registers in turn
-- would leave.
use Rattle.std.specs.Prelude.{is_ok}
use Prim.Native.Nat.{ℕ}
use mathlib.Core.Path.{◌≡◌, refl, sym, ap, ◌∙◌}
use mathlib.Core.List.{List}
use mathlib.Core.Bool.{Bool, true, false}
use lib.ListN.{length, get_or}
use Rattle.wire.specs.Numbers.{Bytes}
use Rattle.rules.specs.Limits.{most_hours, book_size}
use Rattle.rules.specs.Requests.{kind_number, register, row_length, is_strip}
use Rattle.rules.specs.Calls.{Call, Answer, carried}
use Rattle.rules.specs.Lists.{after, accepts}
use Rattle.rules.specs.Strips.{with_bytes, strip_of_one, registers_of}
use Rattle.rules.proofs.Basics.Searches.{each_image}
use Rattle.rules.proofs.Records.StripRows.{rows_bytes}
use Rattle.rules.proofs.Lists.Strips.{strip_of_one_lem, strip_in_turn}
use Rattle.rules.proofs.Lists.Carrying.{after_carried}
use Rattle.image.specs.Valid.{is_book, book_in, book_bytes}
use Rattle.image.proofs.Round.{book_is_image}
use Rattle.day.specs.Answers.{call_answer}
use Rattle.day.proofs.AnswerLaws.{call_on_book, call_on_no_book}
use Rattle.day.proofs.Images.{books_in_bytes}

-- a strip of one record of 20 bytes with the kind of a register answers as that register, on any bytes: outcome, book and both buffers
pub call_strip_of_one : (s : List ℕ) (c : Call) → length c.bytes ≡ row_length → get_or c.bytes 2 0 ≡ kind_number register
    → call_answer s (strip_of_one c) ≡ call_answer s c
call_strip_of_one s c sized kind = go (is_book s) refl
  where
    go : (t : Bool) → is_book s ≡ t → call_answer s (strip_of_one c) ≡ call_answer s c
    go true h = call_on_book s (strip_of_one c) h ∙ ap (carried book_bytes) (strip_of_one_lem (book_in s) c sized kind) ∙ sym (call_on_book s c h)
    go false h = call_on_no_book s (strip_of_one c) h ∙ sym (call_on_no_book s c h)

-- an accepted strip leaves the bytes that its registers in turn would leave
pub call_strip_in_turn : (s : List ℕ) (c : Call) → is_book s ≡ true → Bytes c.bytes → is_strip c.bytes ≡ true → accepts call_answer s c ≡ true
    → after call_answer s (registers_of c) ≡ (call_answer s c).book
call_strip_in_turn s c h bytes strips passes =
    let image = book_is_image most_hours book_size s h in
    let on = call_on_book s c h in
    let plain = ap (λ (a : Answer (List ℕ)). is_ok a.outcome) (sym on) ∙ passes in
    ap (λ (x : List ℕ). after call_answer x (registers_of c)) image.0
    ∙ after_carried books_in_bytes (book_in s) (registers_of c) (each_image (with_bytes c) (rows_bytes c.bytes bytes)) image.1
    ∙ ap book_bytes (strip_in_turn (book_in s) c strips plain)
    ∙ sym (ap (λ (a : Answer (List ℕ)). a.book) on)
