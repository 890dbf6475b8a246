-- Asks on any bytes: an ask is answered as the register of its fields.
use Prim.Native.Nat.{ℕ}
use mathlib.Core.Path.{◌≡◌, refl, sym, ap, ◌∙◌}
use mathlib.Core.List.{List}
use mathlib.Core.Bool.{Bool, true, false}
use lib.ListN.{get_or}
use Rattle.rules.specs.Requests.{kind_number, ask}
use Rattle.rules.specs.Calls.{Call, Answer}
use Rattle.rules.specs.Asks.{as_register}
use Rattle.rules.proofs.Lists.Asks.{ask_as_register}
use Rattle.image.specs.Valid.{is_book, book_in}
use Rattle.day.specs.Answers.{call_answer}
use Rattle.day.proofs.AnswerLaws.{call_on_book, call_on_no_book}

-- bytes with the kind of an ask in the third place get the verdict, the details and the number that they would get with the kind of a register
pub call_ask_as_register : (s : List ℕ) (c : Call) → get_or c.bytes 2 0 ≡ kind_number ask → (call_answer s c).outcome ≡ (call_answer s (as_register c)).outcome
call_ask_as_register s c kind = go (is_book s) refl
  where
    go : (t : Bool) → is_book s ≡ t → (call_answer s c).outcome ≡ (call_answer s (as_register c)).outcome
    go true h =
        ap (λ (a : Answer (List ℕ)). a.outcome) (call_on_book s c h)
        ∙ ask_as_register (book_in s) c kind
        ∙ sym (ap (λ (a : Answer (List ℕ)). a.outcome) (call_on_book s (as_register c) h))
    go false h =
        ap (λ (a : Answer (List ℕ)). a.outcome) (call_on_no_book s c h)
        ∙ sym (ap (λ (a : Answer (List ℕ)). a.outcome) (call_on_no_book s (as_register c) h))
