-- The calls (document 01, "Registration", "Schedules and settlement", "Verdicts"; document 02, notes 3 and 4): what each is refused
-- for, in rank, and what an accepted one gives and makes of the book and of the buffers that it was lent.
use Rattle.std.specs.Prelude.{ℕ, suc, ◌-◌, ◌*◌, ◌≡◌, List, [], ◌∷◌, ◌++◌, map, Bool, true, false, not, ◌&&◌, ◌||◌, length, eqb, leb, ltb, if◌then◌else◌, Option, None, Some}
use Rattle.units.specs.declared.Cents.{Cents}
use Rattle.rules.specs.declared.Row.{Row}
use Rattle.rules.specs.declared.Schedule.{Schedule}
use Rattle.rules.specs.declared.Balance.{Balance}
use Rattle.rules.specs.declared.Request.{Request}
use Rattle.rules.specs.declared.Refusal.{Refusal}
use Rattle.rules.specs.declared.Refusal.TheVariants.{WrongLength, OutOfRange, SameAccount, BufferShort, WrongPhase, BatchOpen, NoBatch, AlreadyPending, RowsFull, NoSuchRow, NotMirrored, MarginBroken, Uncovered, SchedulesFull, StripTwins, NoStandingAsk}
use Rattle.rules.specs.Basics.{any_passes, is_some, nth, put}
use Rattle.rules.specs.Limits.{most_price, most_schedules}
use Rattle.rules.specs.Verdicts.{Check, ◌⇒◌, ◌⇒↑◌, first_to_apply, accepted, refused, Verdict}
use Rattle.rules.specs.Books.{Setup, Part, Book, with_phase, with_part, with_schedules, with_saved, with_asks, with_guarantees, with_rows, no_row, ask_at, no_asks, operator_of, operator_count, counts_of, confirmed_status, withdrawn_status, registration_phase, schedules_phase, settled_phase}
use Rattle.rules.specs.Requests.{Kind, register, confirm, withdraw, guarantee, open_batch, undo, keep, close_gate, schedule, settle, strip, ask, commit, kind_number, kind_of, field_in, is_strip, read_checks, strip_checks, requests_of, first_of, faulty_bit_among, same_accounts, filled, unless_refused}
use Rattle.rules.specs.Registration.{proposed, stands_with, has_twin, twins, rows_pass, confirms, withdraws, mirrors, mark, closed, broken_hour, covered, net_of}
use Rattle.rules.specs.Settlement.{price_count, prices_in, results, balances, balance_bytes}

-- ---- a call: a record, and what only settle looks at: the price table and two output buffers

pub record Call : Type 0 where
  pub bytes : List ℕ
  pub prices : List ℕ
  pub results : List ℕ
  pub balances : List ℕ

abbrev pub call_kind : Call → Kind
call_kind c = kind_of (field_in c.bytes 0)

-- a strip's rows, or the request of its record
abbrev pub call_requests : Call → List Request
call_requests c = requests_of c.bytes

-- the kind is one of these
infix 40 ◌one_of◌
abbrev pub ◌one_of◌ : Kind → List Kind → Bool
k one_of [] = false
k one_of (j ∷ js) = eqb (kind_number k) (kind_number j) || k one_of js

-- ---- what an accepted call does

pub data Change : Type 0 where
  -- rows get the next numbers
  add_rows : List Row → Change
  -- the row of that number gets the status
  set_status : ℕ → ℕ → Change
  -- the operator's guarantee is replaced
  set_guarantee : ℕ → Cents → Change
  -- a batch opens, is undone, is kept
  save_part restore_part drop_saved : Change
  -- the gate closes: all pending rows are withdrawn
  shut_gate : Change
  -- a schedule gets the next place
  add_schedule : Schedule → Change
  -- the day is settled
  end_day : Change
  -- an ask stands for the row's proposer
  stand_ask : Row → Change

-- the number of the row that confirm names, or 0
abbrev pub number_from : Option ℕ → ℕ
number_from None = 0
number_from (Some i) = suc i

abbrev pub confirmed_number : Book → Request → ℕ
confirmed_number b q = number_from (confirms b.part.rows q)

abbrev pub scheduled : Request → Schedule
scheduled q = record { point = q.point; side = q.side; hour = q.first; quantity = q.quantity; price = q.price }

-- the change that a kind makes
abbrev pub change : Kind → Book → List Request → Change
change register b qs = add_rows (map proposed qs)
change confirm b qs = set_status (confirmed_number b (first_of qs)) confirmed_status
change withdraw b qs = set_status (first_of qs).number withdrawn_status
change guarantee b qs = set_guarantee (first_of qs).operator (first_of qs).guarantee
change open_batch b qs = save_part
change undo b qs = restore_part
change keep b qs = drop_saved
change close_gate b qs = shut_gate
change schedule b qs = add_schedule (scheduled (first_of qs))
change settle b qs = end_day
change strip b qs = add_rows (map proposed qs)
change ask b qs = stand_ask (proposed (first_of qs))
change commit b qs = add_rows (map proposed qs)

-- the part as it was saved
abbrev pub restored : Option Part → Part → Part
restored None part = part
restored (Some saved) part = saved

-- the book after a change
unfoldable pub apply : Change → Book → Book
apply (add_rows rows) b = with_rows b (b.part.rows ++ rows)
apply (set_status number status) b = with_rows b (mark number status b.part.rows)
apply (set_guarantee o g) b = with_guarantees b (put b.part.guarantees o g)
apply save_part b = with_saved b (Some b.part)
apply restore_part b = with_saved (with_part b (restored b.saved b.part)) None
apply drop_saved b = with_saved b None
apply shut_gate b = with_phase (with_rows b (closed b.part.rows)) schedules_phase
apply (add_schedule x) b = with_schedules b (b.schedules ++ x ∷ [])
apply end_day b = with_phase b settled_phase
apply (stand_ask r) b = with_asks b (put b.asks r.proposer (Some r))

-- the book with the change that a kind makes, before any asks are cleared
abbrev pub changed : Kind → Book → List Request → Book
changed k b qs = apply (change k b qs) b

-- every accepted call but an ask clears all standing asks
abbrev pub cleared_by : Kind → Book → Book
cleared_by k b = if k one_of (ask ∷ []) then b else with_asks b no_asks

-- the book after an accepted call
abbrev pub next : Kind → Book → List Request → Book
next k b qs = cleared_by k (changed k b qs)

-- the number that it gives: the first added row's, the confirmed row's, the rows registered since the open, the schedule's place; an
-- ask's is the number that its register would get
unfoldable pub given : Kind → Book → List Request → ℕ
given register b qs = suc (length b.part.rows)
given confirm b qs = confirmed_number b (first_of qs)
given withdraw b qs = 0
given guarantee b qs = 0
given open_batch b qs = 0
given undo b qs = length b.part.rows - length (restored b.saved b.part).rows
given keep b qs = 0
given close_gate b qs = 0
given schedule b qs = suc (length b.schedules)
given settle b qs = 0
given strip b qs = suc (length b.part.rows)
given ask b qs = suc (length b.part.rows)
given commit b qs = suc (length b.part.rows)

-- ---- what a call is refused for

-- the kinds that add rows
abbrev pub adding : List Kind
adding = register ∷ strip ∷ commit ∷ []

-- the kind that a call is checked as: an ask is checked as the register of its fields
abbrev pub checked_as : Kind → Kind
checked_as k = if k one_of (ask ∷ []) then register else k

-- what was found, where the test holds
abbrev pub when : Bool → Option ℕ → Option ℕ
when true found = found
when false found = None

-- what its bytes are refused for themselves: 2 to 5; of a strip also 21, and 2 to 4 of its rows
abbrev pub bytes_checks : List ℕ → List Check
bytes_checks s = if is_strip s then strip_checks s else read_checks s

-- 5 to 10, beside what the bytes themselves are refused for; of several requests the first that a check applies to gives the details
unfoldable pub input_checks : Book → Call → Kind → List Request → List Check
input_checks b c k qs =
    (k one_of (settle ∷ []) && not (eqb (length c.prices) (4 * price_count b.setup)) ⇒ WrongLength)
    ∷ map (λ q. faulty_bit_among (counts_of b.setup) (first_of qs).account q ⇒↑ OutOfRange) qs
    ++ (k one_of (settle ∷ []) && any_passes (λ p. ltb most_price p.0) (prices_in b.setup c.prices) ⇒ OutOfRange 12)
    ∷ map (λ q. same_accounts q ⇒ SameAccount) qs
    ++ (k one_of (settle ∷ [])
    && (ltb (length c.results) (length b.schedules) || ltb (length c.balances) (8 * operator_count b.setup))
    ⇒ BufferShort)
    ∷ []

-- the phase that a kind wants
abbrev pub phase_of : Kind → ℕ
phase_of k = if k one_of (schedule ∷ settle ∷ []) then schedules_phase else registration_phase

-- the operator whose exposure a call is checked for: the calling account's, or the one whose guarantee is replaced
abbrev pub exposed_operator : Kind → Setup → Request → ℕ
exposed_operator k u q = if k one_of (guarantee ∷ []) then q.operator else operator_of u q.account

-- 11 to 20, with 23 after 13 and 22 after 14; margins and exposure are judged on the book as it would be, with every row in
unfoldable pub state_checks : Book → Kind → List Request → List Check
state_checks b k qs =
    let q = first_of qs in
    (not (eqb b.phase (phase_of k)) ⇒ WrongPhase)
    ∷ (k one_of (open_batch ∷ close_gate ∷ []) && is_some b.saved ⇒ BatchOpen)
    ∷ (k one_of (undo ∷ keep ∷ []) && not (is_some b.saved) ⇒ NoBatch)
    ∷ (k one_of (commit ∷ []) && not (stands_with (proposed q) (ask_at b q.account)) ⇒ NoStandingAsk)
    ∷ (k one_of adding && any_passes (has_twin b.part.rows) qs ⇒ AlreadyPending)
    ∷ (k one_of adding && twins qs ⇒ StripTwins)
    ∷ (k one_of adding && not (rows_pass b.part.rows (length qs)) ⇒ RowsFull)
    ∷ (k one_of (confirm ∷ []) && not (is_some (confirms b.part.rows q)) ⇒ NoSuchRow)
    ∷ (k one_of (withdraw ∷ []) && not (withdraws b.part.rows q) ⇒ NoSuchRow)
    ∷ (k one_of (confirm ∷ []) && not (mirrors q (nth b.part.rows (confirmed_number b q) no_row)) ⇒ NotMirrored)
    ∷ (when (k one_of (confirm ∷ adding)) (broken_hour b.setup (changed k b qs).part.rows q.account) ⇒↑ MarginBroken)
    ∷ (k one_of (confirm ∷ guarantee ∷ adding) && not (covered b.setup (changed k b qs).part (exposed_operator k b.setup q)) ⇒ Uncovered)
    ∷ (k one_of (schedule ∷ []) && leb most_schedules (length b.schedules) ⇒ SchedulesFull)
    ∷ []

-- every check, in rank
unfoldable pub checks : Book → Call → List Check
checks b c =
    let k = checked_as (call_kind c) in
    bytes_checks c.bytes ++ input_checks b c k (call_requests c) ++ state_checks b k (call_requests c)

-- what a call is refused for, if anything
unfoldable pub refusal : Book → Call → Option Refusal
refusal b c = first_to_apply (checks b c)

-- ---- the answer

-- what an accepted settle works out: results by place, balances by operator
pub record Settled : Type 0 where
  pub results : List ℕ
  pub balances : List Balance

unfoldable pub drawn_up : Book → Call → Settled
drawn_up b c =
    let t = prices_in b.setup c.prices in
    let net = net_of b.part.rows in
    record { results = results b.setup net t b.schedules; balances = balances b.setup net t b.schedules }

-- no other kind works anything out
unfoldable pub settles : Kind → Book → Call → Option Settled
settles k b c = if k one_of (settle ∷ []) then Some (drawn_up b c) else None

-- what a call answers on a book of any form: the outcome, and the book and the two output buffers as the call leaves them
pub record Answer (B : Type 0) : Type 0 where
  pub outcome : Verdict
  pub book : B
  pub results : List ℕ
  pub balances : List ℕ

-- the same answer, with the book in another form
abbrev pub carried : {A B : Type 0} → (A → B) → Answer A → Answer B
carried form x = record { outcome = x.outcome; book = form x.book; results = x.results; balances = x.balances }

-- a function that answers in bytes gives this answer: the outcome, and what it leaves of the book and of the two buffers
pub record Gives (a : Answer (List ℕ)) (o : Verdict) (book results balances : List ℕ) : Type 0 where
  pub outcome_given : o ≡ a.outcome
  pub book_left : book ≡ a.book
  pub results_left : results ≡ a.results
  pub balances_left : balances ≡ a.balances

-- a refusal changes nothing
abbrev pub refused_on : {B : Type 0} → Refusal → B → Call → Answer B
refused_on r b c = record { outcome = refused r; book = b; results = c.results; balances = c.balances }

-- results and balances fill the first places of their buffers, the rest is unchanged
abbrev pub results_after : Option Settled → List ℕ → List ℕ
results_after None buffer = buffer
results_after (Some w) buffer = filled w.results buffer

abbrev pub balances_after : Option Settled → List ℕ → List ℕ
balances_after None buffer = buffer
balances_after (Some w) buffer = filled (balance_bytes w.balances) buffer

-- the answer, by what the call is refused for
unfoldable pub answer : Book → Call → Option Refusal → Answer Book
answer b c (Some r) = refused_on r b c
answer b c None =
    let w = settles (call_kind c) b c in
    record {
      outcome = accepted (given (call_kind c) b (call_requests c));
      book = next (call_kind c) b (call_requests c);
      results = results_after w c.results;
      balances = balances_after w c.balances;
    }

-- one call on a book
unfoldable pub step : Book → Call → Answer Book
step b c = answer b c (refusal b c)

-- the same before asks are cleared: the book has the change of its kind alone
unfoldable pub uncleared : Book → Call → Answer Book
uncleared b c =
    record {
      outcome = (step b c).outcome;
      book = unless_refused (refusal b c) b (changed (call_kind c) b (call_requests c));
      results = (step b c).results;
      balances = (step b c).balances;
    }

-- what the call works out, by what it is refused for
unfoldable pub worked_out : Book → Call → Option Refusal → Option Settled
worked_out b c (Some r) = None
worked_out b c None = settles (call_kind c) b c

-- what an accepted settle worked out; any other call works out nothing
unfoldable pub settlement : Book → Call → Option Settled
settlement b c = worked_out b c (refusal b c)
