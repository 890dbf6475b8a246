-- Demand 3 whole. From an accepted opening the book's bytes are those of a valid plain book after every call, and the ledger agrees with
-- that book; each clause is a law of such a book, said on its bytes.
use Rattle.std.specs.Prelude.{None}
use Prim.Native.Nat.{ℕ}
use mathlib.Core.Path.{◌≡◌, sym, ap, ◌∙◌, fun_ext}
use mathlib.Core.List.{List, [], ◌∷◌, ◌++◌, map}
use mathlib.Core.Bool.{true}
use lib.IntN.{pos}
use Rattle.rules.specs.declared.Net.{Net}
use Rattle.rules.specs.Basics.{sum_of, up_to, Each}
use Rattle.rules.specs.Verdicts.{numbers}
use Rattle.rules.specs.Books.{Setup, Book, account_count, operator_count}
use Rattle.rules.specs.Opening.{setup_of, setup_refusal, open_refusal, opened}
use Rattle.rules.specs.Requests.{settle}
use Rattle.rules.specs.Registration.{net_of, figure}
use Rattle.rules.specs.Settlement.{prices_in, registered_total, figures_in}
use Rattle.rules.specs.Calls.{Call, Answer, step}
use Rattle.rules.specs.Lists.{runs, after, accepts_as, UndoneBatch, EmptyKeptBatch, Matched}
use Rattle.rules.specs.Asks.{AskCommitted, CommittedAsAsked}
use Rattle.rules.specs.Ledger.{new_ledger, fed_all, ledger_after, ledger_net}
use Rattle.rules.proofs.Checks.Clearing.{clear, clear_applies}
use Rattle.rules.proofs.Ledgers.Agreement.{day_agrees}
use Rattle.rules.proofs.Ledgers.LedgerReadings.{net_is_the_ledgers, hour_is_the_ledgers, exposure_is_the_ledgers, available_is_the_ledgers}
use Rattle.rules.proofs.Ledgers.LedgerDay.{day_book, day_ledger, day_setup, day_settled}
use Rattle.rules.proofs.Settling.SettledTotal.{Owned}
use Rattle.rules.proofs.Basics.Searches.{first_and_rest, each_map}
use Rattle.rules.proofs.Lists.CallLists.{matched}
use Rattle.rules.proofs.Lists.Batches.{like_an_empty_batch}
use Rattle.rules.proofs.Lists.Asks.{commit_of_its_ask}
use Rattle.rules.proofs.Lists.Carrying.{runs-carried, after_carried, heard_carried, accepts_carried, undone_carried, kept_carried, committed_carried, as_asked_carried}
use Rattle.image.specs.Valid.{book_bytes}
use Rattle.image.proofs.Setups.SetupRanges.{each_split}
use Rattle.image.proofs.Setups.SetupAgain.{accepted_in_range}
use Rattle.image.proofs.Keeping.Opened.{opened_valid}
use Rattle.image.proofs.Keeping.Reachable.{OfBytes, reachable_valid, reachable_setup, reachable_nets_cancel, reachable_nets_within_margins, reachable_margins_kept, reachable_covered}
use Rattle.book.specs.Answers.{open_bytes}
use Rattle.day.specs.Answers.{call_answer}
use Rattle.day.specs.Promise.{Promise}
use Rattle.day.proofs.Images.{call_on_image, books_in_bytes}
use Rattle.day.proofs.SettleLaws.{settle_writes, written_total}
use Rattle.day.proofs.Refusals.{runs_not_one}
use Rattle.day.proofs.Readings.{net_answer_agrees, exposure-answer_agrees, hourly-exposure-answer_agrees}

-- ---- a list from the bytes of the opened book

module _ (setup : List ℕ) (h : setup_refusal setup ≡ None) where
  -- the bytes that an accepted opening wrote
  abbrev fresh : List ℕ
  fresh = book_bytes (opened setup)

  -- accounts are of the set-up's operators, points on its accounts
  owned : Owned (setup_of setup)
  owned =
      let r = accepted_in_range setup h in
      record {
        accounts = each_map (λ x s. (s.operator_low, s.operator_high)) r.accounts_sound;
        points = each_map (λ x s. (s.account_low, s.account_high)) r.points_sound;
      }

  module _ (cs : List Call) (bytes : OfBytes cs) where
    bytes_are : after call_answer fresh cs ≡ book_bytes (day_book setup cs)
    bytes_are = after_carried books_in_bytes (opened setup) cs bytes (opened_valid setup h)

    ledger_is : ledger_after call_answer setup fresh cs ≡ day_ledger setup cs
    ledger_is = ap (fed_all (new_ledger setup)) (heard_carried books_in_bytes (opened setup) cs bytes (opened_valid setup h))

    nets_are : net_of (day_book setup cs).part.rows ≡ ledger_net (day_ledger setup cs)
    nets_are = fun_ext (λ a. fun_ext (λ k. net_is_the_ledgers (day_book setup cs) (day_ledger setup cs) (day_agrees setup cs) a k))

    -- in each hour net positions sum to zero
    nets_cancel : (k : ℕ) → sum_of (map (λ a. figure (ledger_net (day_ledger setup cs) a k)) (up_to (account_count (setup_of setup)))) ≡ pos 0
    nets_cancel k =
        ap (λ (net : ℕ → ℕ → Net). sum_of (map (λ a. figure (net a k)) (up_to (account_count (setup_of setup))))) (sym nets_are)
        ∙ ap (λ (u : Setup). sum_of (map (λ a. figure (net_of (day_book setup cs).part.rows a k)) (up_to (account_count u)))) (sym (reachable_setup setup h cs bytes))
        ∙ reachable_nets_cancel setup h cs bytes k

    -- an accepted settle on the bytes after the list
    settle_total : (c : Call) → accepts_as call_answer (settle ∷ []) (after call_answer fresh cs) c ≡ true
        → sum_of (figures_in (operator_count (setup_of setup)) (call_answer (after call_answer fresh cs) c).balances)
        ≡ registered_total (setup_of setup) (ledger_net (day_ledger setup cs)) (prices_in (setup_of setup) c.prices) (day_ledger setup cs).page.schedules
    settle_total c e =
        let b = day_book setup cs in
        let v = reachable_valid setup h cs bytes in
        let accepted : accepts_as step (settle ∷ []) b c ≡ true = sym (accepts_carried books_in_bytes (settle ∷ []) b c v) ∙ (rw bytes_are at e) in
        let answer = ap (λ (s : List ℕ). call_answer s c) bytes_are ∙ call_on_image b v c in
        let count : operator_count (setup_of setup) ≡ operator_count b.setup = ap (λ (u : Setup). operator_count u) (sym (reachable_setup setup h cs bytes)) in
        let l = day_ledger setup cs in
        ap (λ (x : Answer (List ℕ)). sum_of (figures_in (operator_count (setup_of setup)) x.balances)) answer
        ∙ ap (λ (n : ℕ). sum_of (figures_in n (step b c).balances)) count
        ∙ written_total b c accepted v
        ∙ (day_settled setup cs owned c _ (settle_writes b c accepted).0).total
        ∙ ap (λ (u : Setup). registered_total u (ledger_net l) (prices_in u c.prices) l.page.schedules) (day_setup setup cs)

  -- an undone batch in the list, matched with an empty kept one
  batch_matched : (before : List Call) (opening : Call) (between : List Call) (undoing : Call) (rest : List Call)
      → OfBytes (before ++ (opening ∷ between ++ undoing ∷ []) ++ rest)
      → UndoneBatch call_answer (after call_answer fresh before) opening between undoing
      → (other keeping : Call) → OfBytes (other ∷ keeping ∷ []) → EmptyKeptBatch call_answer (after call_answer fresh before) other keeping
      → Matched call_answer fresh before (opening ∷ between ++ undoing ∷ []) (other ∷ keeping ∷ []) rest
  batch_matched before opening between undoing rest bytes batch other keeping others empty =
      let calls : List Call = opening ∷ between ++ undoing ∷ [] in
      let instead : List Call = other ∷ keeping ∷ [] in
      let b : Book = day_book setup before in
      let parts = each_split before calls (each_split (before ++ calls) rest bytes).0 in
      let v = reachable_valid setup h before parts.0 in
      let there = bytes_are before parts.0 in
      let opens = (each_split (opening ∷ between) (undoing ∷ []) parts.1).0 in
      let undone = undone_carried books_in_bytes b opening between undoing opens v (rw there at batch) in
      let kept = kept_carried books_in_bytes b other keeping (first_and_rest others).0 v (rw there at empty) in
      let same =
      after_carried books_in_bytes b calls parts.1 v
      ∙ ap (λ (x : Book). book_bytes x) (like_an_empty_batch b opening between undoing undone other keeping kept)
      ∙ sym (after_carried books_in_bytes b instead others v) in
      matched call_answer fresh before calls instead rest
      (ap (λ (s : List ℕ). after call_answer s calls) there ∙ same ∙ sym (ap (λ (s : List ℕ). after call_answer s instead) there))

  -- an ask in the list, and its commit
  ask_committed : (before : List Call) (asking : Call) (between : List Call) (committing : Call) (rest : List Call)
      → OfBytes (before ++ (asking ∷ between ++ committing ∷ []) ++ rest)
      → AskCommitted call_answer (after call_answer fresh before) asking between committing
      → CommittedAsAsked call_answer (after call_answer fresh before) asking between committing
  ask_committed before asking between committing rest bytes pair =
      let calls : List Call = asking ∷ between ++ committing ∷ [] in
      let b : Book = day_book setup before in
      let parts = each_split before calls (each_split (before ++ calls) rest bytes).0 in
      let v = reachable_valid setup h before parts.0 in
      let there = bytes_are before parts.0 in
      let many = first_and_rest (each_split (asking ∷ between) (committing ∷ []) parts.1).0 in
      let plain = committed_carried books_in_bytes b asking between committing many.0 many.1 v (rw there at pair) in
      rw there (as_asked_carried books_in_bytes b asking between committing many.0 many.1 v (commit_of_its_ask b asking between committing plain))

  fresh_promise : (cs : List Call) → OfBytes cs → Promise setup fresh cs
  fresh_promise cs bytes =
      let b = day_book setup cs in
      let l = day_ledger setup cs in
      let g = day_agrees setup cs in
      let v = reachable_valid setup h cs bytes in
      let at = bytes_are cs bytes in
      let is = ledger_is cs bytes in
      let su = reachable_setup setup h cs bytes in
      record {
        net_readings = λ a k. rw (at, is) (net_answer_agrees b l g v a k);
        exposure_readings = λ o. rw (at, is) (exposure-answer_agrees b l g v o);
        hourly-exposure_readings = λ o k. rw (at, is) (hourly-exposure-answer_agrees b l g v o k);
        nets_sum_to_zero = λ k. rw is (nets_cancel cs bytes k);
        nets_within_margins = λ a k al ah kl kh.
            rw (is, ← net_is_the_ledgers b l g a k, ← su) (reachable_nets_within_margins setup h cs bytes a k al (rw su ah) kl (rw su kh));
        pending-within_margins = λ a k al ah kl kh.
            rw (is, ← hour_is_the_ledgers b l g a k, ← su) (reachable_margins_kept setup h cs bytes a k al (rw su ah) kl (rw su kh));
        exposures_covered = λ o low high.
            rw (is, ← exposure_is_the_ledgers b l g o, ← available_is_the_ledgers b l g o) (reachable_covered setup h cs bytes o low (rw su high));
        undone_batches_matched = λ before opening between undoing rest e batch other keeping others empty.
            batch_matched before opening between undoing rest (rw e at bytes) batch other keeping others empty;
        commits_as_asked = λ before asking between committing rest e pair.
            ask_committed before asking between committing rest (rw e at bytes) pair;
        balances_total = λ before c rest e accepted.
            let Some = (each_split before (c ∷ rest) (rw e at bytes)).0 in
            rw (ledger_is before Some) (settle_total before Some c accepted);
      }

-- ---- the theorem

module _ (setup book : List ℕ) (h : open_refusal setup book ≡ None) where
  setup_accepted : setup_refusal setup ≡ None
  unfolding open_refusal setup_refusal
  setup_accepted = clear_applies _ (clear _ h).1

  opened_bytes : open_bytes setup book ≡ book_bytes (opened setup)
  unfolding open_bytes
  opened_bytes = rw h

  -- demand 3: any list of calls, each with bytes of its own, run from the bytes that an accepted opening wrote
  pub whole_list : (cs : List Call) → OfBytes cs → Promise setup (open_bytes setup book) cs
  whole_list cs bytes = rw opened_bytes (fresh_promise setup setup_accepted cs bytes)

  -- and no call of such a list answers 1
  pub no_call_answers_1 : (cs : List Call) → OfBytes cs → Each (λ x. (numbers x.answer.outcome).0 ≡ 1 → ⊥) (runs call_answer (open_bytes setup book) cs)
  no_call_answers_1 cs bytes =
      rw (opened_bytes, runs-carried books_in_bytes (opened setup) cs bytes (opened_valid setup setup_accepted)) (runs_not_one (opened setup) cs)
