-- A replay in rounds: lines are gathered in a buffer and written, then the next ones are gathered in the same buffer, while the replay goes on.
use Rattle.std.specs.Prelude.{ℕ, zero, suc, ◌≡◌, List, ◌++◌, Bool, true, None}
use Rattle.rules.specs.Replay.{replay, text}
use Rattle.replaying.specs.Gathering.{Progress, so_far, first_gathered, all_gathered, lines_in}

-- the lines have been written: the next ones are gathered from the front
abbrev pub emptied : Progress → Progress
emptied p =
    let g = p.gathered in
    so_far (record { next = g.next; number = g.number; end = 0 }) p.book p.out

-- the first round gathers the beginning, and the items after it
unfoldable pub first_round : List ℕ → List ℕ → List ℕ → Progress
first_round stream book out = all_gathered stream (first_gathered stream book out)

-- so many rounds more
unfoldable pub after_rounds : ℕ → List ℕ → Progress → Progress
after_rounds zero stream p = p
after_rounds (suc n) stream p = all_gathered stream (emptied (after_rounds n stream p))

-- the lines of a round and of so many after it
unfoldable pub lines_of_rounds : ℕ → List ℕ → Progress → List ℕ
lines_of_rounds zero stream p = lines_in p
lines_of_rounds (suc n) stream p = lines_of_rounds n stream p ++ lines_in (after_rounds (suc n) stream p)

-- a replay that ended after some rounds: the book and the buffer are as the last one left them; where all was written, the replay has ended, and
-- the lines of the rounds are the text of the replay
pub record Replayed (stream book out book₁ out₁ : List ℕ) (written : Bool) : Type 0 where
  pub rounds : ℕ
  pub book_left : book₁ ≡ (after_rounds rounds stream (first_round stream book out)).book
  pub out_left : out₁ ≡ (after_rounds rounds stream (first_round stream book out)).out
  pub ended : written ≡ true → (after_rounds rounds stream (first_round stream book out)).gathered.next ≡ None
  pub lines : written ≡ true → lines_of_rounds rounds stream (first_round stream book out) ≡ text (replay stream)
