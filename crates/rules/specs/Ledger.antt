-- The ledger (document 01, "What demand 3 compares"; document 02, notes 3 to 5): fed only the set-up's bytes, each record and whether it
-- was accepted.
use Rattle.std.specs.Prelude.{ℕ, suc, List, [], ◌∷◌, ◌++◌, Bool, true, false, ◌&&◌, eqb, if◌then◌else◌}
use Rattle.units.specs.declared.Kwh.{Kwh}
use Rattle.units.specs.declared.Cents.{Cents}
use Rattle.units.specs.declared.CentsPerMwh.{CentsPerMwh}
use Rattle.units.specs.Units.{kwh}
use Rattle.rules.specs.declared.Row.{Row}
use Rattle.rules.specs.declared.Net.{Net}
use Rattle.rules.specs.declared.AccountHour.{AccountHour}
use Rattle.rules.specs.declared.Schedule.{Schedule}
use Rattle.rules.specs.declared.Request.{Request}
use Rattle.rules.specs.Basics.{total, put, within}
use Rattle.rules.specs.Books.{Setup, estimate_at, guarantee_at, selling_side, buying_side}
use Rattle.rules.specs.Opening.{setup_of, guarantees_of}
use Rattle.rules.specs.Requests.{Kind, register, confirm, withdraw, guarantee, open_batch, undo, keep, close_gate, schedule, settle, strip, ask, commit, kind_of, requests_of}
use Rattle.rules.specs.Registration.{proposed, alike, counted, includes_hour, exposure_of, hourly_exposure_of, available_of}
use Rattle.rules.specs.Settlement.{Judged, settled}
use Rattle.rules.specs.Lists.{heard}
use Rattle.rules.specs.Calls.{Call, Answer, ◌one_of◌, scheduled}

-- a trade: who sells to whom, in which hours, how much in each
pub record Trade : Type 0 where
  pub seller : ℕ
  pub buyer : ℕ
  pub first : ℕ
  pub last : ℕ
  pub quantity : Kwh

-- a pending row with its number
pub record Entry : Type 0 where
  pub number : ℕ
  pub row : Row

pub record Page : Type 0 where
  pub guarantees : List Cents
  pub pending : List Entry
  pub trades : List Trade
  pub schedules : List Schedule
  pub next_number : ℕ

-- a page with one field changed
abbrev pub page_guarantees : Page → List Cents → Page
page_guarantees p gs =
    record { guarantees = gs; pending = p.pending; trades = p.trades; schedules = p.schedules; next_number = p.next_number }

abbrev pub page_pending : Page → List Entry → Page
page_pending p es =
    record { guarantees = p.guarantees; pending = es; trades = p.trades; schedules = p.schedules; next_number = p.next_number }

abbrev pub page_trades : Page → List Trade → Page
page_trades p ts =
    record { guarantees = p.guarantees; pending = p.pending; trades = ts; schedules = p.schedules; next_number = p.next_number }

abbrev pub page_schedules : Page → List Schedule → Page
page_schedules p xs =
    record { guarantees = p.guarantees; pending = p.pending; trades = p.trades; schedules = xs; next_number = p.next_number }

abbrev pub page_next : Page → ℕ → Page
page_next p n =
    record { guarantees = p.guarantees; pending = p.pending; trades = p.trades; schedules = p.schedules; next_number = n }

-- the set-up, the present page, and the copy that the last open made
pub record Ledger : Type 0 where
  pub setup : Setup
  pub page : Page
  pub copy : Page

-- ---- what each record does to it

-- it starts with the set-up's guarantees and estimates, otherwise empty
unfoldable pub blank : List ℕ → Page
blank s = record { guarantees = guarantees_of s; pending = []; trades = []; schedules = []; next_number = 1 }

unfoldable pub new_ledger : List ℕ → Ledger
new_ledger s = record { setup = setup_of s; page = blank s; copy = blank s }

-- without the first that passes
unfoldable pub without : (Entry → Bool) → List Entry → List Entry
without p [] = []
without p (e ∷ es) = elim (p e) [ true ↦ es | false ↦ e ∷ without p es ]

-- the trade that confirm adds, in which the caller sells or buys
abbrev pub trade_of : Request → Trade
trade_of q =
    record {
      seller = if eqb q.side selling_side then q.account else q.other;
      buyer = if eqb q.side selling_side then q.other else q.account;
      first = q.first;
      last = q.last;
      quantity = q.quantity;
    }

-- a pending row with the next number
abbrev pub entered : Page → Row → Page
entered p r = page_next (page_pending p (p.pending ++ record { number = p.next_number; row = r } ∷ [])) (suc p.next_number)

-- an accepted request on a page, with the copy beside it: register adds a pending row with the next number; confirm ends the pending
-- row with its code and its accounts exchanged, and adds its trade; withdraw ends the row of its number, close all pending;
-- guarantee replaces the old one; undo puts the copy back; schedule adds itself. A commit is a register, an ask nothing; no request is of
-- the kind of a strip
unfoldable pub page_after : Kind → Request → Page → Page → Page
page_after register q copy p = entered p (proposed q)
page_after confirm q copy p =
    page_trades (page_pending p (without (λ e. alike q.other q.account q.code e.row) p.pending)) (p.trades ++ trade_of q ∷ [])
page_after withdraw q copy p = page_pending p (without (λ e. eqb e.number q.number) p.pending)
page_after guarantee q copy p = page_guarantees p (put p.guarantees q.operator q.guarantee)
page_after open_batch q copy p = p
page_after undo q copy p = copy
page_after keep q copy p = p
page_after close_gate q copy p = page_pending p []
page_after schedule q copy p = page_schedules p (p.schedules ++ scheduled q ∷ [])
page_after settle q copy p = p
page_after strip q copy p = p
page_after ask q copy p = p
page_after commit q copy p = entered p (proposed q)

-- an accepted request on the ledger; open copies the whole page, next number too
unfoldable pub feed : Kind → Request → Ledger → Ledger
feed k q l =
    record {
      setup = l.setup;
      page = page_after k q l.copy l.page;
      copy = if k one_of (open_batch ∷ []) then l.page else l.copy;
    }

-- several, one after the other
unfoldable pub feed_each : List Request → Ledger → Ledger
feed_each [] l = l
feed_each (q ∷ qs) l = feed_each qs (feed (kind_of q.kind) q l)

-- a record, and whether it was accepted: a strip enters as its registers in turn; a refused one leaves the ledger unchanged
unfoldable pub fed : List ℕ → Bool → Ledger → Ledger
fed record' true l = feed_each (requests_of record') l
fed record' false l = l

-- ---- a list of calls

-- the ledger after records, each with whether it was accepted
unfoldable pub fed_all : Ledger → List (List ℕ × Bool) → Ledger
fed_all l [] = l
fed_all l (x ∷ xs) = fed_all (fed x.0 x.1 l) xs

-- the ledger after a list of calls on a book: it hears only the set-up's bytes, each record and whether it was accepted
abbrev pub ledger_after : {B : Type 0} → (B → Call → Answer B) → List ℕ → B → List Call → Ledger
ledger_after answer setup b cs = fed_all (new_ledger setup) (heard answer b cs)

-- ---- what the ledger says

-- the sum of trades in the hour, of which the account is that party
unfoldable pub traded : (Trade → ℕ) → List Trade → ℕ → ℕ → ℕ
traded party trades a h = total (λ t. if within t.first h t.last && eqb (party t) a then t.quantity.0 else 0) trades

-- net, per account and hour: purchases plus, sales minus
unfoldable pub ledger_net : Ledger → ℕ → ℕ → Net
ledger_net l a h =
    record {
      bought = kwh (traded (λ t. t.buyer) l.page.trades a h);
      sold = kwh (traded (λ t. t.seller) l.page.trades a h);
    }

-- the account's own pending rows of a side
unfoldable pub ledger_waiting : ℕ → Ledger → ℕ → ℕ → ℕ
ledger_waiting side l a h =
    total (λ e. counted (λ r. includes_hour h r && eqb r.proposer a && eqb r.side side) e.row) l.page.pending

unfoldable pub ledger_hour : Ledger → ℕ → ℕ → AccountHour
ledger_hour l a h =
    record { net = ledger_net l a h; sales = kwh (ledger_waiting selling_side l a h); purchases = kwh (ledger_waiting buying_side l a h) }

unfoldable pub ledger_exposure : Ledger → ℕ → ℕ
ledger_exposure l o = exposure_of l.setup (estimate_at l.setup) (ledger_hour l) o

-- the hourly exposure
unfoldable pub ledger_hourly_exposure : Ledger → ℕ → ℕ → ℕ
ledger_hourly_exposure l o h = hourly_exposure_of l.setup (estimate_at l.setup) (ledger_hour l) o h

unfoldable pub ledger_available : Ledger → ℕ → ℕ
ledger_available l o = available_of l.setup (guarantee_at l.page.guarantees o).0 o

-- what the rules give on the ledger's schedules and net at settle's prices
unfoldable pub ledger_settled : Ledger → List CentsPerMwh → List Judged
ledger_settled l t = settled l.setup (ledger_net l) t l.page.schedules
