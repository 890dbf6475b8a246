-- The call of an item: its record and its prices are its two parts, and the buffers are zeros.
use Rattle.rules.specs.Verdicts.{Verdict}
use Prim.Native.Nat.{ℕ, ◌-◌, ◌*◌}
use mathlib.Core.Path.{◌≡◌, sym, ap, ◌∙◌}
use mathlib.Core.List.{List}
use mathlib.Core.Bool.{true}
use native.Mathlib.Omega.{arith}
use lib.ListN.{length, take, drop, replicate, length-drop}
use lib.Seq.{take_all}
use Rattle.rules.specs.Limits.{most_schedules, most_operators}
use Rattle.rules.specs.Calls.{Call, Answer, Gives, carried, step}
use Rattle.rules.specs.Replay.{call_of}
use Rattle.items.specs.Stream.{record_length}
use Rattle.items.proofs.StreamLaws.{call_parts}
use Rattle.image.specs.Valid.{is_book, book_bytes, book_in}
use Rattle.day.specs.Answers.{call_answer, call_with}
use Rattle.valuation.specs.Tables.{balance_width}
use Rattle.day.proofs.AnswerLaws.{call_on_book}

-- an answer is given, and the bytes are a book
abbrev GivesBook : Answer (List ℕ) → Verdict → List ℕ → List ℕ → List ℕ → Type 0
GivesBook x o t results balances = Gives x o t results balances × (is_book t ≡ true)

module _ (s item : List ℕ) (h : is_book s ≡ true) where
  -- the prices, as the code cuts them out
  rest_whole : (n : ℕ) → take (length item - n) (drop n item) ≡ drop n item
  rest_whole n = take_all (length item - n) (drop n item) (omega (arith, length-drop n item))

  called_as : {n : ℕ} {results balances : List ℕ} → n ≡ record_length item → results ≡ replicate most_schedules 0
      → balances ≡ replicate (balance_width * most_operators) 0
      → call_answer s (call_with (take n item) (take (length item - n) (drop n item)) results balances) ≡ carried book_bytes (step (book_in s) (call_of item))
  called_as {n} en er eb =
      call_on_book s _ h ∙ rw (rest_whole n, en, er, eb) (ap (λ (c : Call). carried book_bytes (step (book_in s) c)) (sym (call_parts item)))

  -- a call with them is the item's
  pub item_called : {n : ℕ} {results balances : List ℕ} → n ≡ record_length item → results ≡ replicate most_schedules 0
      → balances ≡ replicate (balance_width * most_operators) 0 → {o : Verdict} {t rs bs : List ℕ}
      → GivesBook (call_answer s (call_with (take n item) (take (length item - n) (drop n item)) results balances)) o t rs bs
      → GivesBook (carried book_bytes (step (book_in s) (call_of item))) o t rs bs
  item_called en er eb x = rw (called_as en er eb) at x
