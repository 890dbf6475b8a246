-- Net, exposure, available and settlement are the ledger's wherever it agrees with the book: each is a function of the set-up, of what
-- accounts bought, sold and wait for, of guarantees, schedules and prices, and in all of these the two agree.
use Rattle.std.specs.Prelude.{Ok}
use Prim.Native.Nat.{ℕ}
use mathlib.Core.Path.{◌≡◌, fun_ext}
use mathlib.Core.List.{List}
use mathlib.Core.Bool.{true, false, ◌&&◌}
use lib.Dec.{eqb}
use Rattle.units.specs.declared.CentsPerMwh.{CentsPerMwh}
use Rattle.units.specs.Units.{milli_cents}
use Rattle.rules.specs.declared.Row.{Row}
use Rattle.rules.specs.Basics.{within}
use Rattle.rules.specs.Verdicts.{first_to_apply}
use Rattle.rules.specs.Books.{Book, account_count, operator_count, periods}
use Rattle.rules.specs.Registration.{includes_hour, counted, pending, waiting, net_of, account_hour, exposure, hourly_exposure, available}
use Rattle.rules.specs.Readings.{position, net_reading, exposure_reading, hourly_exposure_reading}
use Rattle.rules.specs.Settlement.{settled, results, balances, registered_total}
use Rattle.rules.specs.Ledger.{Ledger, ledger_net, ledger_waiting, ledger_hour, ledger_exposure, ledger_hourly_exposure, ledger_available, ledger_settled}
use Rattle.rules.proofs.Ledgers.Entries.{total_entries}
use Rattle.rules.proofs.Ledgers.Agreement.{Agrees}

module _ (b : Book) (l : Ledger) (g : Agrees b l) where
  -- ---- what accounts hold

  pub net_is_the_ledgers : (a h : ℕ) → net_of b.part.rows a h ≡ ledger_net l a h
  unfolding ledger_net
  net_is_the_ledgers a h = rw (g.part.bought a h, g.part.sold a h)

  pub waiting_is_the_ledgers : (side a h : ℕ) → waiting side b.part.rows a h ≡ ledger_waiting side l a h
  unfolding waiting ledger_waiting
  waiting_is_the_ledgers side a h = rw g.part.pending (total_entries _ _ held ended 1 b.part.rows)
    where
      held : (r : Row) → pending r ≡ true
          → counted (λ r. pending r && includes_hour h r && eqb r.proposer a && eqb r.side side) r
          ≡ counted (λ r. includes_hour h r && eqb r.proposer a && eqb r.side side) r
      held r e = rw e

      ended : (r : Row) → pending r ≡ false → counted (λ r. pending r && includes_hour h r && eqb r.proposer a && eqb r.side side) r ≡ 0
      ended r e = rw e

  pub hour_is_the_ledgers : (a h : ℕ) → account_hour b.part.rows a h ≡ ledger_hour l a h
  unfolding ledger_hour
  hour_is_the_ledgers a h = rw (net_is_the_ledgers a h, waiting_is_the_ledgers 1 a h, waiting_is_the_ledgers 2 a h)

  hours : account_hour b.part.rows ≡ ledger_hour l
  hours = fun_ext (λ a. fun_ext (λ h. hour_is_the_ledgers a h))

  -- ---- exposure and what is available

  pub exposure_is_the_ledgers : (o : ℕ) → exposure b.setup b.part.rows o ≡ ledger_exposure l o
  unfolding ledger_exposure
  exposure_is_the_ledgers o = rw (hours, g.setup)

  pub hourly_exposure_is_the_ledgers : (o h : ℕ) → hourly_exposure b.setup b.part.rows o h ≡ ledger_hourly_exposure l o h
  unfolding ledger_hourly_exposure
  hourly_exposure_is_the_ledgers o h = rw (hours, g.setup)

  pub available_is_the_ledgers : (o : ℕ) → available b.setup b.part o ≡ ledger_available l o
  unfolding available ledger_available
  available_is_the_ledgers o = rw (g.part.guarantees, g.setup)

  -- ---- readings

  -- a net position that is read is the ledger's
  pub net_read_is_the_ledgers : (a h : ℕ) → within 1 a (account_count l.setup) ≡ true → within 1 h (periods l.setup) ≡ true
      → net_reading b a h ≡ Ok (position (ledger_net l a h))
  unfolding net_reading first_to_apply
  net_read_is_the_ledgers a h i j = rw (g.setup, i, j, net_is_the_ledgers a h)

  -- and so is an exposure
  pub exposure_read_is_the_ledgers : (o : ℕ) → within 1 o (operator_count l.setup) ≡ true
      → exposure_reading b o ≡ Ok (milli_cents (ledger_exposure l o))
  unfolding exposure_reading first_to_apply
  exposure_read_is_the_ledgers o i = rw (exposure_is_the_ledgers o, g.setup, i)

  -- and so is an hourly one
  pub hourly_exposure_read_is_the_ledgers : (o h : ℕ) → within 1 o (operator_count l.setup) ≡ true → within 1 h (periods l.setup) ≡ true
      → hourly_exposure_reading b o h ≡ Ok (milli_cents (ledger_hourly_exposure l o h))
  unfolding hourly_exposure_reading first_to_apply
  hourly_exposure_read_is_the_ledgers o h i j = rw (hourly_exposure_is_the_ledgers o h, g.setup, i, j)

  -- ---- settlement

  nets : net_of b.part.rows ≡ ledger_net l
  nets = fun_ext (λ a. fun_ext (λ h. net_is_the_ledgers a h))

  module _ (t : List CentsPerMwh) where
    pub settled_is_the_ledgers : settled b.setup (net_of b.part.rows) t b.schedules ≡ ledger_settled l t
    unfolding ledger_settled
    settled_is_the_ledgers = rw (nets, g.setup, g.schedules)

    pub results_are_the_ledgers : results b.setup (net_of b.part.rows) t b.schedules
        ≡ results l.setup (ledger_net l) t l.page.schedules
    results_are_the_ledgers = rw (nets, g.setup, g.schedules)

    pub balances_are_the_ledgers : balances b.setup (net_of b.part.rows) t b.schedules
        ≡ balances l.setup (ledger_net l) t l.page.schedules
    balances_are_the_ledgers = rw (nets, g.setup, g.schedules)

    pub total_is_the_ledgers : registered_total b.setup (net_of b.part.rows) t b.schedules
        ≡ registered_total l.setup (ledger_net l) t l.page.schedules
    total_is_the_ledgers = rw (nets, g.setup, g.schedules)
