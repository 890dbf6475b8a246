-- What a step of the replay answers, and what it leaves in the book and in the buffer for its lines.
use Rattle.std.specs.Prelude.{ℕ, ◌+◌, ◌*◌, List, ◌++◌, Bool, true, false, length, Option, None, Some, option_map}
use Rattle.rules.specs.Limits.{most_schedules, most_operators}
use Rattle.rules.specs.Verdicts.{numbers, Verdict}
use Rattle.rules.specs.Calls.{Answer, carried, step}
use Rattle.rules.specs.Replay.{answered, call_of, line_text, text}
use Rattle.items.specs.Written.{line_room}
use Rattle.items.specs.Figures.{settled_text}
use Rattle.image.specs.Valid.{book_bytes, book_in}
use Rattle.replaying.specs.declared.Stepped.{Stepped}
use Rattle.replaying.specs.Steps.{Onward, Step}

-- no step prints more: a line for the item, for each schedule, for each operator, and for the total
abbrev pub step_room : ℕ
step_room = line_room * (most_schedules + most_operators + 2)

-- where the next item begins; none where the replay ends
abbrev pub next_of : Option Onward → Option ℕ
next_of x = option_map (λ o. o.at) x

-- the bytes of the book that the replay goes on with; as they were where it ends
abbrev pub book_on : Option Onward → List ℕ → List ℕ
book_on None before = before
book_on (Some o) before = book_bytes o.book

-- the text that a step prints
abbrev pub printed : Step → List ℕ
printed x = text x.lines

-- what a step answers
abbrev pub stepped : Step → Stepped
stepped x =
    record { next = next_of x.onward; end = length (printed x) }

-- what the call of an item answers on the bytes of a book
abbrev pub item_answer : List ℕ → List ℕ → Answer (List ℕ)
item_answer book item = carried book_bytes (step (book_in book) (call_of item))

-- the text of an answer: its own line, and after an accepted settle the lines of the first n results and of the first m balances
unfoldable pub answer_text : ℕ → Verdict → Bool → ℕ → List ℕ → ℕ → List ℕ → List ℕ
answer_text number o true n results m balances = line_text (answered number (numbers o)) ++ settled_text n results m balances
answer_text number o false n results m balances = line_text (answered number (numbers o))
