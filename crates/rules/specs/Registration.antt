-- Registration (document 01, "Registration"): rows, what an account holds in an hour, margins, exposure and what is available.
-- Sums are natural numbers: a net position is what was bought and what was sold, each by itself.
use Rattle.std.specs.Prelude.{ℕ, ◌+◌, ◌-◌, ◌*◌, Bool, false, not, ◌&&◌, ◌||◌, length, eqb, leb, ℤ, pos, ◌+ℤ◌, ◌-ℤ◌, if◌then◌else◌, Option, None, Some}
use mathlib.Core.List.{List, [], ◌∷◌, map, flat_map}
use Rattle.std.proofs.Math.IntN.{sub_ℕ}
use Rattle.units.specs.declared.CentsPerMwh.{CentsPerMwh}
use Rattle.units.specs.Units.{kwh, cents, cents_per_mwh}
use Rattle.rules.specs.declared.Margins.{Margins}
use Rattle.rules.specs.declared.Row.{Row}
use Rattle.rules.specs.declared.Net.{Net}
use Rattle.rules.specs.declared.AccountHour.{AccountHour}
use Rattle.rules.specs.declared.Request.{Request}
use Rattle.rules.specs.Basics.{total, any_passes, find, those, index_of, nth, put, up_to, within}
use Rattle.rules.specs.Limits.{thousand, most_rows}
use Rattle.rules.specs.Requests.{register, kind_number}
use Rattle.rules.specs.Books.{Setup, Part, periods, margins_at, estimate_at, maintenance_at, guarantee_at, operator_of, account_count, no_row, pending_status, confirmed_status, withdrawn_status, selling_side, buying_side}

-- ---- rows

abbrev pub pending : Row → Bool
pending r = eqb r.status pending_status

abbrev pub confirmed : Row → Bool
confirmed r = eqb r.status confirmed_status

-- the proposer sells, or it buys
abbrev pub seller : Row → ℕ
seller r = if eqb r.side selling_side then r.proposer else r.counterparty

abbrev pub buyer : Row → ℕ
buyer r = if eqb r.side selling_side then r.counterparty else r.proposer

-- the hour is one of the row's
abbrev pub includes_hour : ℕ → Row → Bool
includes_hour h r = within r.first h r.last

abbrev pub with_status : ℕ → Row → Row
with_status status r =
    record {
      proposer = r.proposer;
      counterparty = r.counterparty;
      code = r.code;
      side = r.side;
      first = r.first;
      last = r.last;
      quantity = r.quantity;
      status = status;
    }

-- the row of that number gets the status
unfoldable pub mark : ℕ → ℕ → List Row → List Row
mark number status rows = put rows number (with_status status (nth rows number no_row))

-- all pending rows are withdrawn
unfoldable pub closed : List Row → List Row
closed rows = map (λ r. if pending r then with_status withdrawn_status r else r) rows

-- ---- the row that a request speaks of

-- what register proposes
abbrev pub proposed : Request → Row
proposed q =
    record {
      proposer = q.account;
      counterparty = q.other;
      code = q.code;
      side = q.side;
      first = q.first;
      last = q.last;
      quantity = q.quantity;
      status = pending_status;
    }

-- the register that proposes a row
abbrev pub register_of : Row → Request
register_of r =
    record {
      kind = kind_number register;
      account = r.proposer;
      other = r.counterparty;
      code = r.code;
      side = r.side;
      first = r.first;
      last = r.last;
      quantity = r.quantity;
      number = 0;
      operator = 0;
      guarantee = cents 0;
      point = 0;
      price = cents_per_mwh 0;
    }

-- the rows are the same but for their status
unfoldable pub same_terms : Row → Row → Bool
same_terms x y =
    eqb x.proposer y.proposer
    && eqb x.counterparty y.counterparty
    && eqb x.code y.code
    && eqb x.side y.side
    && eqb x.first y.first
    && eqb x.last y.last
    && eqb x.quantity.0 y.quantity.0

-- an ask stands, with the terms of the row
abbrev pub stands_with : Row → Option Row → Bool
stands_with r None = false
stands_with r (Some x) = same_terms x r

-- a pending row with this proposer, counterparty and code
unfoldable pub alike : ℕ → ℕ → ℕ → Row → Bool
alike proposer counterparty code r =
    pending r && eqb r.proposer proposer && eqb r.counterparty counterparty && eqb r.code code

-- a row that stands is alike the one that the request proposes
abbrev pub has_twin : List Row → Request → Bool
has_twin rows q = any_passes (alike q.account q.other q.code) rows

-- a request with this counterparty and code
abbrev pub of_code : ℕ → ℕ → Request → Bool
of_code counterparty code q = eqb q.other counterparty && eqb q.code code

-- two of the requests are alike in counterparty and code
unfoldable pub twins : List Request → Bool
twins [] = false
twins (q ∷ qs) = any_passes (of_code q.other q.code) qs || twins qs

-- numbers enough are left for n rows more; withdrawn rows keep theirs
abbrev pub rows_pass : List Row → ℕ → Bool
rows_pass rows n = leb (length rows + n) most_rows

-- the index of the row that confirm names: the caller is its counterparty, the other account its proposer
unfoldable pub confirms : List Row → Request → Option ℕ
confirms rows q = index_of (alike q.other q.account q.code) rows

-- withdraw ends a pending row of that proposer
unfoldable pub withdraws : List Row → Request → Bool
withdraws rows q = pending (nth rows q.number no_row) && eqb (nth rows q.number no_row).proposer q.account

-- side opposite, hours and quantity equal
unfoldable pub mirrors : Request → Row → Bool
mirrors q r =
    not (eqb r.side q.side)
    && eqb r.first q.first
    && eqb r.last q.last
    && eqb r.quantity.0 q.quantity.0

-- ---- what an account holds in an hour, in kWh

-- the quantity of a row where the test holds
abbrev pub counted : (Row → Bool) → Row → ℕ
counted p r = if p r then r.quantity.0 else 0

-- a confirmed row of the hour, of which the account is that party
abbrev pub moves : (Row → ℕ) → ℕ → ℕ → Row → Bool
moves party a h r = confirmed r && includes_hour h r && eqb (party r) a

-- a pending row of the hour and of that side, which the account proposed; pending rows count for the proposer only
abbrev pub pending_of : ℕ → ℕ → ℕ → Row → Bool
pending_of side a h r = pending r && includes_hour h r && eqb r.proposer a && eqb r.side side

-- what confirmed rows move in the hour, of which the account is that party
unfoldable pub moved : (Row → ℕ) → List Row → ℕ → ℕ → ℕ
moved party rows a h = total (counted (moves party a h)) rows

abbrev pub bought : List Row → ℕ → ℕ → ℕ
bought rows a h = moved buyer rows a h

abbrev pub sold : List Row → ℕ → ℕ → ℕ
sold rows a h = moved seller rows a h

-- the account's own pending rows of a side
unfoldable pub waiting : ℕ → List Row → ℕ → ℕ → ℕ
waiting side rows a h = total (counted (pending_of side a h)) rows

abbrev pub pending_sales : List Row → ℕ → ℕ → ℕ
pending_sales rows a h = waiting selling_side rows a h

abbrev pub pending_purchases : List Row → ℕ → ℕ → ℕ
pending_purchases rows a h = waiting buying_side rows a h

abbrev pub net_of : List Row → ℕ → ℕ → Net
net_of rows a h = record { bought = kwh (bought rows a h); sold = kwh (sold rows a h) }

abbrev pub account_hour : List Row → ℕ → ℕ → AccountHour
account_hour rows a h =
    record { net = net_of rows a h; sales = kwh (pending_sales rows a h); purchases = kwh (pending_purchases rows a h) }

-- an account hour after one row more
unfoldable pub after_trade : ℕ → ℕ → AccountHour → Row → AccountHour
after_trade a h x r =
    record {
      net = record {
        bought = kwh (x.net.bought.0 + counted (moves buyer a h) r);
        sold = kwh (x.net.sold.0 + counted (moves seller a h) r);
      };
      sales = kwh (x.sales.0 + counted (pending_of selling_side a h) r);
      purchases = kwh (x.purchases.0 + counted (pending_of buying_side a h) r);
    }

-- after several, one after the other
abbrev pub after_trades : ℕ → ℕ → AccountHour → List Row → AccountHour
after_trades a h x [] = x
after_trades a h x (r ∷ rs) = after_trades a h (after_trade a h x r) rs

-- ---- the paper's signed figures: purchases count plus, sales minus

abbrev pub figure : Net → ℤ
figure n = sub_ℕ n.bought.0 n.sold.0

-- low is net less the account's own pending sales, high is net plus its own pending purchases
abbrev pub low : AccountHour → ℤ
low x = figure x.net -ℤ pos x.sales.0

abbrev pub high : AccountHour → ℤ
high x = figure x.net +ℤ pos x.purchases.0

-- ---- margins

-- minus lower margin ≤ low, high ≤ upper margin
unfoldable pub keeps_margins : Margins → AccountHour → Bool
keeps_margins margins x =
    leb (x.net.sold.0 + x.sales.0) (x.net.bought.0 + margins.lower.0)
    && leb (x.net.bought.0 + x.purchases.0) (x.net.sold.0 + margins.upper.0)

-- the lowest hour that breaks a margin of the account
unfoldable pub broken_hour : Setup → List Row → ℕ → Option ℕ
broken_hour u rows a = find (λ h. not (keeps_margins (margins_at u a h) (account_hour rows a h))) (up_to (periods u))

-- the same with rows that are to be added
unfoldable pub broken_by : Setup → List Row → List Row → ℕ → Option ℕ
broken_by u rows added a =
    find (λ h. not (keeps_margins (margins_at u a h) (after_trades a h (account_hour rows a h) added))) (up_to (periods u))

-- ---- exposure and what is available, in thousandths of a cent

-- what net lies below zero, and the account's own pending sales in full
abbrev pub exposed : AccountHour → ℕ
exposed x = (x.net.sold.0 - x.net.bought.0) + x.sales.0

-- the amount of an account hour, at a price
abbrev pub exposed_amount : CentsPerMwh → AccountHour → ℕ
exposed_amount price x = price.0 * exposed x

-- the sum of f over an operator's accounts
unfoldable pub of_operator : Setup → (ℕ → ℕ) → ℕ → ℕ
of_operator u f o = total (λ a. if eqb (operator_of u a) o then f a else 0) (up_to (account_count u))

-- exposure of what accounts hold in their hours, at prices by hour: over the operator's accounts and the hours
unfoldable pub exposure_of : Setup → (ℕ → CentsPerMwh) → (ℕ → ℕ → AccountHour) → ℕ → ℕ
exposure_of u prices holds o = of_operator u (λ a. total (λ h. exposed_amount (prices h) (holds a h)) (up_to (periods u))) o

-- the hourly exposure (document 02, note 5): the price of the hour times that hour's sum over the operator's accounts
unfoldable pub hourly_exposure_of : Setup → (ℕ → CentsPerMwh) → (ℕ → ℕ → AccountHour) → ℕ → ℕ → ℕ
hourly_exposure_of u prices holds o h = (prices h).0 * of_operator u (λ a. exposed (holds a h)) o

-- at estimated prices
abbrev pub exposure : Setup → List Row → ℕ → ℕ
exposure u rows o = exposure_of u (estimate_at u) (account_hour rows) o

abbrev pub hourly_exposure : Setup → List Row → ℕ → ℕ → ℕ
hourly_exposure u rows o h = hourly_exposure_of u (estimate_at u) (account_hour rows) o h

-- the same with rows that are to be added
abbrev pub exposure_with : Setup → List Row → List Row → ℕ → ℕ
exposure_with u rows added o = exposure_of u (estimate_at u) (λ a h. after_trades a h (account_hour rows a h) added) o

-- what is available of a guarantee of the operator: guarantee times (1000 - m)
abbrev pub available_of : Setup → ℕ → ℕ → ℕ
available_of u guarantee o = guarantee * (thousand - maintenance_at u o)

-- what is available of its guarantee in force
unfoldable pub available : Setup → Part → ℕ → ℕ
available u p o = available_of u (guarantee_at p.guarantees o).0 o

-- a guarantee covers an exposure: it may equal what is available
abbrev pub covered_by : Setup → ℕ → ℕ → ℕ → Bool
covered_by u exposure guarantee o = leb exposure (available_of u guarantee o)

-- the guarantee in force covers the exposure of the rows
unfoldable pub covered : Setup → Part → ℕ → Bool
covered u p o = leb (exposure u p.rows o) (available u p o)

-- ---- an operator's accounts and their hours

-- its accounts, each once
unfoldable pub accounts_of : Setup → ℕ → List ℕ
accounts_of u o = those (λ a. eqb (operator_of u a) o) (up_to (account_count u))

-- its account hours, each once: its accounts in the first hour, then in the next
unfoldable pub account_hours_of : Setup → ℕ → List (ℕ × ℕ)
account_hours_of u o = flat_map (λ h. map (λ a. (a, h)) (accounts_of u o)) (up_to (periods u))
