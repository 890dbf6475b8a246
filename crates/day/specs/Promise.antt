-- Demand 3 whole (document 01, "What demand 3 compares"): one claim about the whole list, clause by clause. The list starts from bytes
-- that an accepted opening of the set-up wrote; the ledger is fed only the set-up's bytes, each record and whether it was accepted.
use Rattle.std.specs.Prelude.{ℕ, ◌≤◌, ◌≡◌, List, [], ◌∷◌, ◌++◌, map, true, pos, neg_ℤ, ◌≤ℤ◌}
use Rattle.wire.specs.Numbers.{Bytes}
use Rattle.rules.specs.Basics.{sum_of, up_to, Each}
use Rattle.rules.specs.Books.{account_count, operator_count, periods, lower_at, upper_at}
use Rattle.rules.specs.Opening.{setup_of}
use Rattle.rules.specs.Requests.{settle}
use Rattle.rules.specs.Registration.{figure, low, high}
use Rattle.rules.specs.Readings.{net_read_out, exposure_read_out}
use Rattle.rules.specs.Settlement.{prices_in, registered_total, figures_in}
use Rattle.rules.specs.Calls.{Call}
use Rattle.rules.specs.Lists.{after, accepts_as, UndoneBatch, EmptyKeptBatch, Matched}
use Rattle.rules.specs.Asks.{AskCommitted, CommittedAsAsked}
use Rattle.rules.specs.Ledger.{Ledger, ledger_after, ledger_net, ledger_hour, ledger_exposure, ledger_available}
use Rattle.book.specs.Answers.{net_answer, exposure_answer, hourly_exposure_answer}
use Rattle.day.specs.Answers.{call_answer}
use Rattle.day.specs.Readings.{ledger_net_read_out, ledger_exposure_read_out, ledger_hourly_exposure_read_out}

module _ (setup start : List ℕ) where
  -- the book's bytes after a list of calls
  abbrev pub book : List Call → List ℕ
  book cs = after call_answer start cs

  -- the ledger of the list
  abbrev pub ledger : List Call → Ledger
  ledger cs = ledger_after call_answer setup start cs

  pub record Promise (cs : List Call) : Type 0 where
    -- after the list every reading of net equals the ledger's, in number, details and signed figure: the sum of the account's confirmed trades
    -- that no undo struck
    pub net_readings : (a h : ℕ) → net_read_out (net_answer (book cs) a h) ≡ ledger_net_read_out (ledger cs) a h
    -- and every reading of exposure, in number, details and money
    pub exposure_readings : (o : ℕ) → exposure_read_out (exposure_answer (book cs) o) ≡ ledger_exposure_read_out (ledger cs) o
    -- and every reading of hourly exposure
    pub hourly-exposure_readings : (o h : ℕ)
        → exposure_read_out (hourly_exposure_answer (book cs) o h) ≡ ledger_hourly_exposure_read_out (ledger cs) o h
    -- in each hour net positions sum to zero
    pub nets_sum_to_zero : (h : ℕ)
        → sum_of (map (λ a. figure (ledger_net (ledger cs) a h)) (up_to (account_count (setup_of setup)))) ≡ pos 0
    -- each net position is within its margins
    pub nets_within_margins : (a h : ℕ) → 1 ≤ a → a ≤ account_count (setup_of setup) → 1 ≤ h → h ≤ periods (setup_of setup)
        → (neg_ℤ (pos (lower_at (setup_of setup) a h).0) ≤ℤ figure (ledger_net (ledger cs) a h))
        × (figure (ledger_net (ledger cs) a h) ≤ℤ pos (upper_at (setup_of setup) a h).0)
    -- with the account's own pending rows too: minus lower margin ≤ low, high ≤ upper margin
    pub pending-within_margins : (a h : ℕ) → 1 ≤ a → a ≤ account_count (setup_of setup) → 1 ≤ h → h ≤ periods (setup_of setup)
        → (neg_ℤ (pos (lower_at (setup_of setup) a h).0) ≤ℤ low (ledger_hour (ledger cs) a h))
        × (high (ledger_hour (ledger cs) a h) ≤ℤ pos (upper_at (setup_of setup) a h).0)
    -- no exposure is above the available guarantee
    pub exposures_covered : (o : ℕ) → 1 ≤ o → o ≤ operator_count (setup_of setup)
        → ledger_exposure (ledger cs) o ≤ ledger_available (ledger cs) o
    -- an undone batch (an accepted open, the next accepted undo with no accepted keep between, and all between) matched with an empty kept
    -- batch in its place: every other call answers the same, and the last bytes are equal
    pub undone_batches_matched : (before : List Call) (opening : Call) (between : List Call) (undoing : Call) (rest : List Call)
        → cs ≡ before ++ (opening ∷ between ++ undoing ∷ []) ++ rest
        → UndoneBatch call_answer (book before) opening between undoing
        → (other keeping : Call) → Each (λ c. Bytes c.bytes) (other ∷ keeping ∷ [])
        → EmptyKeptBatch call_answer (book before) other keeping
        → Matched call_answer start before (opening ∷ between ++ undoing ∷ []) (other ∷ keeping ∷ []) rest
    -- between an accepted ask and its accepted commit no accepted call but asks stands, and the commit is answered as its ask was, number
    -- and all; its ask is the last accepted one of its account before it
    pub commits_as_asked : (before : List Call) (asking : Call) (between : List Call) (committing : Call) (rest : List Call)
        → cs ≡ before ++ (asking ∷ between ++ committing ∷ []) ++ rest
        → AskCommitted call_answer (book before) asking between committing
        → CommittedAsAsked call_answer (book before) asking between committing
    -- the balances that an accepted settle wrote total the registered schedules at their prices, registered being what the rules give 0 on
    -- the ledger's schedules and net: injections and mixed withdrawals at zone price, other withdrawals at PUN, withdrawals negative
    pub balances_total : (before : List Call) (c : Call) (rest : List Call)
        → cs ≡ before ++ c ∷ rest
        → accepts_as call_answer (settle ∷ []) (book before) c ≡ true
        → sum_of (figures_in (operator_count (setup_of setup)) (call_answer (book before) c).balances)
        ≡ registered_total
        (setup_of setup)
        (ledger_net (ledger before))
        (prices_in (setup_of setup) c.prices)
        (ledger before).page.schedules
