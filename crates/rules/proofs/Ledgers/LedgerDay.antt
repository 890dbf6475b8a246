-- Demand 3 over a day: a set-up opens the book, calls run on it, and the ledger hears each record and whether it was accepted. The two
-- agree after any list of calls, so that readings and an accepted settle are the ledger's.
use Rattle.std.specs.Prelude.{if◌then◌else◌, Ok, Option, None, Some}
use Prim.Native.Nat.{ℕ}
use mathlib.Core.Path.{◌≡◌, refl, ◌∙◌}
use mathlib.Core.List.{List, [], ◌∷◌, map}
use mathlib.Core.Bool.{Bool, true, false}
use native.Mathlib.Omega.{arith}
use Rattle.units.specs.Units.{milli_cents}
use Rattle.rules.specs.declared.Refusal.{Refusal}
use Rattle.rules.specs.declared.Request.{Request}
use Rattle.rules.specs.Basics.{sum_of, within}
use Rattle.rules.specs.Books.{Book, account_count, operator_count, periods}
use Rattle.rules.specs.Opening.{opened, setup_of}
use Rattle.rules.specs.Requests.{settle, kind_of, requests_of}
use Rattle.rules.specs.Registration.{net_of, available}
use Rattle.rules.specs.Readings.{position, net_reading, exposure_reading, hourly_exposure_reading}
use Rattle.rules.specs.Settlement.{prices_in, results, balances, registered_total, balance_figure}
use Rattle.rules.specs.Calls.{Call, drawn_up, Settled, call_kind, ◌one_of◌, worked_out, settles, refusal, step, settlement}
use Rattle.rules.specs.Lists.{after, heard}
use Rattle.rules.specs.Ledger.{Ledger, new_ledger, feed, feed_each, fed, fed_all, ledger_net, ledger_exposure, ledger_hourly_exposure, ledger_available, ledger_after}
use Rattle.rules.proofs.Ledgers.Ranged.{Ranged, opened_ranged, last_ranged}
use Rattle.rules.proofs.Ledgers.Agreement.{Agrees, day_agrees}
use Rattle.rules.proofs.Ledgers.LedgerReadings.{net_read_is_the_ledgers, exposure_read_is_the_ledgers, hourly_exposure_read_is_the_ledgers, available_is_the_ledgers, results_are_the_ledgers, balances_are_the_ledgers, total_is_the_ledgers}
use Rattle.rules.proofs.Settling.SettledTotal.{Owned, book_total}

-- ---- an accepted settle

-- what it worked out, on the ledger at its prices
pub record SettledBy (l : Ledger) (c : Call) (w : Settled) : Type 0 where
  pub results : w.results ≡ results l.setup (ledger_net l) (prices_in l.setup c.prices) l.page.schedules
  pub balances : w.balances ≡ balances l.setup (ledger_net l) (prices_in l.setup c.prices) l.page.schedules
  -- the balances total what the ledger's registered schedules are worth
  pub total : sum_of (map balance_figure w.balances) ≡ registered_total l.setup (ledger_net l) (prices_in l.setup c.prices) l.page.schedules

never : (w : Settled) → None ≡ Some w → ⊥
never w h = let z : ◌≡◌ {A = ℕ} 0 1 = cc in omega arith

module _ (b : Book) (c : Call) (l : Ledger) (w : Settled) (owned : Owned b.setup) (r : Ranged b) (g : Agrees b l) where
  settles_go : (t : Bool) → (if t then Some (drawn_up b c) else None) ≡ Some w → SettledBy l c w
  unfolding drawn_up
  settles_go false h = absurd (never w h)
  settles_go true h =
      let t = prices_in b.setup c.prices in
      let x : Settled =
      record {
        results = results b.setup (net_of b.part.rows) t b.schedules;
        balances = balances b.setup (net_of b.part.rows) t b.schedules;
      } in
      let e : x ≡ w = cc in
      rw (← e) (record {
        results = results_are_the_ledgers b l g t ∙ rw g.setup;
        balances = balances_are_the_ledgers b l g t ∙ rw g.setup;
        total = book_total b t owned r ∙ total_is_the_ledgers b l g t ∙ rw g.setup;
      })

  worked_go : (o : Option Refusal) → worked_out b c o ≡ Some w → SettledBy l c w
  unfolding worked_out settles
  worked_go (Some x) h = absurd (never w h)
  worked_go None h = settles_go (call_kind c one_of (settle ∷ [])) h

  pub settled_by : settlement b c ≡ Some w → SettledBy l c w
  unfolding settlement
  settled_by h = worked_go (refusal b c) h

-- ---- the set-up stands all day

fed_each_setup : (qs : List Request) (l : Ledger) → (feed_each qs l).setup ≡ l.setup
unfolding feed_each feed
fed_each_setup [] l = refl
fed_each_setup (q ∷ qs) l = fed_each_setup qs (feed (kind_of q.kind) q l)

fed_setup : (s : List ℕ) (t : Bool) (l : Ledger) → (fed s t l).setup ≡ l.setup
unfolding fed
fed_setup s true l = fed_each_setup (requests_of s) l
fed_setup s false l = refl

fed_all_setup : (l : Ledger) (xs : List (List ℕ × Bool)) → (fed_all l xs).setup ≡ l.setup
unfolding fed_all
fed_all_setup l [] = refl
fed_all_setup l (x ∷ xs) = fed_all_setup (fed x.0 x.1 l) xs ∙ fed_setup x.0 x.1 l

-- ---- the day

module _ (s : List ℕ) (cs : List Call) where
  -- the book after the calls
  abbrev pub day_book : Book
  day_book = after step (opened s) cs

  -- the ledger, fed only the set-up, the records and whether each was accepted
  abbrev pub day_ledger : Ledger
  day_ledger = ledger_after step s (opened s) cs

  agrees : Agrees day_book day_ledger
  agrees = day_agrees s cs

  pub day_setup : day_ledger.setup ≡ setup_of s
  unfolding new_ledger
  day_setup = fed_all_setup (new_ledger s) (heard step (opened s) cs)

  -- every reading of net
  pub day_net : (a h : ℕ) → within 1 a (account_count (setup_of s)) ≡ true → within 1 h (periods (setup_of s)) ≡ true
      → net_reading day_book a h ≡ Ok (position (ledger_net day_ledger a h))
  day_net a h i j = net_read_is_the_ledgers day_book day_ledger agrees a h (rw day_setup i) (rw day_setup j)

  -- every reading of exposure
  pub day_exposure : (o : ℕ) → within 1 o (operator_count (setup_of s)) ≡ true
      → exposure_reading day_book o ≡ Ok (milli_cents (ledger_exposure day_ledger o))
  day_exposure o i = exposure_read_is_the_ledgers day_book day_ledger agrees o (rw day_setup i)

  -- every reading of hourly exposure
  pub day_hourly_exposure : (o h : ℕ) → within 1 o (operator_count (setup_of s)) ≡ true → within 1 h (periods (setup_of s)) ≡ true
      → hourly_exposure_reading day_book o h ≡ Ok (milli_cents (ledger_hourly_exposure day_ledger o h))
  day_hourly_exposure o h i j = hourly_exposure_read_is_the_ledgers day_book day_ledger agrees o h (rw day_setup i) (rw day_setup j)

  -- what is available
  pub day_available : (o : ℕ) → available day_book.setup day_book.part o ≡ ledger_available day_ledger o
  day_available o = available_is_the_ledgers day_book day_ledger agrees o

  -- an accepted settle
  pub day_settled : Owned (setup_of s) → (c : Call) (w : Settled) → settlement day_book c ≡ Some w → SettledBy day_ledger c w
  day_settled owned c w h =
      settled_by day_book c day_ledger w (rw (agrees.setup, day_setup) owned) (last_ranged (opened s) cs (opened_ranged s)) agrees h
