-- What a call answers, on any bytes (document 01, "Verdicts"): the paper's answer on the book that the bytes say, and 1 where they are
-- no book. A refusal changes no lent byte.
use Rattle.std.specs.Prelude.{ℕ, List, if◌then◌else◌}
use Rattle.rules.specs.declared.Refusal.TheVariants.{NotABook}
use Rattle.rules.specs.Calls.{Call, Answer, carried, refused_on, step, uncleared}
use Rattle.image.specs.Valid.{is_book, book_bytes, book_in}

-- what a call answers: on bytes that are a book what the rules answer on that book, the next book in bytes; on any others 1
unfoldable pub call_answer : List ℕ → Call → Answer (List ℕ)
call_answer s c = if is_book s then carried book_bytes (step (book_in s) c) else refused_on NotABook s c

-- what it answers on a book before asks are cleared: the functions of its kind leave this
abbrev pub change_answer : List ℕ → Call → Answer (List ℕ)
change_answer s c = carried book_bytes (uncleared (book_in s) c)

-- a call by the bytes that it is lent: its record, the price table, and the buffers for results and balances
abbrev pub call_with : List ℕ → List ℕ → List ℕ → List ℕ → Call
call_with bytes prices results balances = record { bytes = bytes; prices = prices; results = results; balances = balances }

-- what that call answers
abbrev pub call_on : List ℕ → List ℕ → List ℕ → List ℕ → List ℕ → Answer (List ℕ)
call_on book bytes prices results balances = call_answer book (call_with bytes prices results balances)

-- and before asks are cleared
abbrev pub change_on : List ℕ → List ℕ → List ℕ → List ℕ → List ℕ → Answer (List ℕ)
change_on book bytes prices results balances = change_answer book (call_with bytes prices results balances)
