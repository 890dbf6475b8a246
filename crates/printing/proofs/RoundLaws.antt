-- Rounds of a replay: each adds its lines to those written, and takes them from the text to come.
use Rattle.std.specs.Prelude.{None}
use Prim.Native.Nat.{ℕ, suc, ◌≤◌}
use mathlib.Core.Path.{◌≡◌, refl, sym, ap, ◌∙◌}
use mathlib.Core.List.{List, ◌++◌, append_assoc, append-nil}
use mathlib.Core.Bool.{Bool, true}
use lib.ListN.{length}
use lib.Seq.{length-take-le}
use Rattle.io.specs.Counts.{IsPrefixLen}
use Rattle.rules.specs.Replay.{replay, text}
use Rattle.replaying.specs.Gathering.{Progress, Follows, first_gathered, all_gathered, lines_in, to_come, whole_text}
use Rattle.printing.specs.Rounds.{Replayed, emptied, first_round, after_rounds, lines_of_rounds}

-- some rounds lead from one to the other; their lines and the text to come make the whole
pub record Led (stream : List ℕ) (before after : Progress) : Type 0 where
  pub rounds : ℕ
  pub left : after ≡ after_rounds rounds stream before
  pub text : lines_of_rounds rounds stream before ++ to_come stream after ≡ whole_text stream before

-- no round yet
pub led_none : (s : List ℕ) (p : Progress) → Led s p p
unfolding after_rounds lines_of_rounds
led_none s p = record { rounds = 0; left = refl; text = refl }

-- one round more
pub led_on : (s : List ℕ) {p q r : Progress} → Led s p q → r ≡ all_gathered s (emptied q) → Follows s (emptied q) r → Led s p r
unfolding after_rounds lines_of_rounds
led_on s {p} {q} {r} l e f =
    let left : r ≡ after_rounds (suc l.rounds) s p = rw (← l.left) e in
    record {
      rounds = suc l.rounds;
      left = left;
      text = rw (← left) (append_assoc (lines_of_rounds l.rounds s p) (lines_in r) (to_come s r) ∙ ap (λ (t : List ℕ). lines_of_rounds l.rounds s p ++ t) f.whole ∙ l.text);
    }

-- the rounds of a replay that has ended
module _ (s book out : List ℕ) {first p : Progress} {q : Progress} (written : Bool) where
  pub replayed : first ≡ first_gathered s book out → p ≡ all_gathered s first → whole_text s p ≡ text (replay s) → Led s p q
      → (written ≡ true → q.gathered.next ≡ None) → Replayed s book out q.book q.out written
  unfolding first_round
  replayed ef ep whole l over =
      let start : p ≡ first_round s book out = ep ∙ ap (all_gathered s) ef in
      let left : q ≡ after_rounds l.rounds s (first_round s book out) = rw (← start) l.left in
      record {
        rounds = l.rounds;
        book_left = rw (← left) refl;
        out_left = rw (← left) refl;
        ended = λ w. rw (← left) (over w);
        lines = λ w. rw (← start) (sym (append-nil (lines_of_rounds l.rounds s p)) ∙ (rw (over w) at l).text ∙ whole);
      }

-- bytes at the start of a list, counted
pub counts : (n : ℕ) (xs : List ℕ) → n ≤ length xs → IsPrefixLen n xs
counts n xs h = (h, sym (length-take-le n xs h))
