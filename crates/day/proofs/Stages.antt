-- What a call on the bytes of a sound book answers before asks are cleared, by what the rules refuse it for on that book.
use Rattle.std.specs.Prelude.{Option, None, Some}
use Prim.Native.Nat.{ℕ}
use mathlib.Core.Path.{◌≡◌}
use mathlib.Core.List.{List, [], ◌∷◌}
use mathlib.Core.Bool.{true, false}
use Rattle.rules.specs.declared.Refusal.{Refusal}
use Rattle.rules.specs.Limits.{most_hours, book_size}
use Rattle.rules.specs.Verdicts.{outcome_of}
use Rattle.rules.specs.Books.{Book}
use Rattle.rules.specs.Requests.{Kind, settle, unless_refused}
use Rattle.rules.specs.Calls.{Call, refused_on, call_requests, call_kind, changed, given, ◌one_of◌, refusal, settles, answer, step, uncleared}
use Rattle.image.specs.Valid.{is_sound, book_bytes, book_in}
use Rattle.image.proofs.Round.{sound_is_image}
use Rattle.day.specs.Answers.{change_answer}

-- a refusal leaves all that was lent as it is
pub change-refused : (s : List ℕ) (c : Call) → is_sound s ≡ true → (r : Refusal) → refusal (book_in s) c ≡ Some r → change_answer s c ≡ refused_on r s c
unfolding uncleared step answer
change-refused s c h r e = rw (e, ← (sound_is_image most_hours book_size s h).0)

-- every kind but settle leaves both buffers as they were
works_nothing : (k : Kind) (b : Book) (c : Call) → k one_of (settle ∷ []) ≡ false → settles k b c ≡ None
unfolding settles
works_nothing k b c e = rw e

-- what any other kind answers, by what it is refused for
pub change_decided : (s : List ℕ) (c : Call) → call_kind c one_of (settle ∷ []) ≡ false → (o : Option Refusal) → refusal (book_in s) c ≡ o
    → change_answer s c
    ≡ record {
      outcome = outcome_of o (given (call_kind c) (book_in s) (call_requests c));
      book = book_bytes (unless_refused o (book_in s) (changed (call_kind c) (book_in s) (call_requests c)));
      results = c.results;
      balances = c.balances;
    }
unfolding uncleared step answer
change_decided s c k (Some r) e = rw e
change_decided s c k None e = rw (e, works_nothing (call_kind c) (book_in s) c k)
