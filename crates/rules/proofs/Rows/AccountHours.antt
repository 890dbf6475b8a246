-- What a change of rows does to an account hour: sums over rows change by the share of the one row that is added or marked, and a
-- pending row has no share in what is moved.
use Rattle.std.specs.Prelude.{if◌then◌else◌}
use Prim.Native.Nat.{ℕ, zero, suc, ◌+◌, ◌≤◌}
use mathlib.Core.Path.{◌≡◌, refl, sym, ap, ◌∙◌}
use mathlib.Core.List.{List, [], ◌∷◌, ◌++◌, append_assoc, append-nil}
use mathlib.Core.Bool.{Bool, true, false, not, ◌&&◌}
use native.Mathlib.Nat.{add-zero}
use native.Mathlib.Omega.{arith}
use lib.ListN.{length, get_or}
use lib.Dec.{eqb}
use borrow.Author.Tests.{eqb-true}
use Rattle.units.specs.Units.{kwh}
use Rattle.rules.specs.declared.Row.{Row}
use Rattle.rules.specs.declared.AccountHour.{AccountHour}
use Rattle.rules.specs.Basics.{total, find, nth, up_to, Each}
use Rattle.rules.specs.Books.{Setup, no_row, periods, margins_at, estimate_at}
use Rattle.rules.specs.Registration.{pending, confirmed, includes_hour, counted, with_status, mark, closed, moved, waiting, buyer, seller, bought, sold, net_of, pending_sales, pending_purchases, account_hour, after_trade, after_trades, keeps_margins, broken_hour, broken_by, exposure_of, exposure, exposure_with}
use Rattle.rules.proofs.Basics.Totals.{total_zero, total_cong, total_same, total_append, total_snoc, total_set, total_map}
use Rattle.rules.proofs.Basics.Searches.{each_map}

-- ---- shares of a row

-- what a confirmed row adds to what the account, as that party, moved in the hour
abbrev pub share : (Row → ℕ) → ℕ → ℕ → Row → ℕ
share party a h = counted (λ r. includes_hour h r && eqb (party r) a)

-- what a pending row of that side adds to what waits on the account in the hour
abbrev pub weight : ℕ → ℕ → ℕ → Row → ℕ
weight side a h = counted (λ r. includes_hour h r && eqb r.proposer a && eqb r.side side)

-- the same, of any status
unfoldable moved_share : (Row → ℕ) → ℕ → ℕ → Row → ℕ
moved_share party a h = counted (λ r. confirmed r && includes_hour h r && eqb (party r) a)

unfoldable waiting_share : ℕ → ℕ → ℕ → Row → ℕ
waiting_share side a h = counted (λ r. pending r && includes_hour h r && eqb r.proposer a && eqb r.side side)

-- ---- sums over rows of which one is marked

-- no row stands at a number that the list has not
pub pending_inside : (rows : List Row) (n : ℕ) → pending (nth rows n no_row) ≡ true → (1 ≤ n) × (n ≤ length rows)
pending_inside rows zero e = let z : ◌≡◌ {A = ℕ} 0 1 = cc in absurd (omega arith)
pending_inside [] (suc i) e = let z : ◌≡◌ {A = ℕ} 0 1 = cc in absurd (omega arith)
pending_inside (r ∷ rs) (suc zero) e = omega arith
pending_inside (r ∷ rs) (suc (suc i)) e = let ih = pending_inside rs (suc i) e in omega arith

-- the share of the row as it was goes, its share with the new status comes
pub total_mark : (f : Row → ℕ) (n status : ℕ) (rows : List Row) → 1 ≤ n → n ≤ length rows
    → total f (mark n status rows) + f (nth rows n no_row) ≡ total f rows + f (with_status status (nth rows n no_row))
unfolding mark
total_mark f zero status rows l h = absurd (omega arith)
total_mark f (suc i) status rows l h = total_set f no_row i rows (with_status status (get_or rows i no_row)) (omega arith)

-- ---- what is moved

module _ (party : Row → ℕ) (a h : ℕ) where
  moved_idle : (r : Row) → pending r ≡ true → moved_share party a h r ≡ 0
  unfolding moved_share
  moved_idle r e = rw (eqb-true r.status 1 e)

  moved_ended : (r : Row) → moved_share party a h (with_status 3 r) ≡ 0
  unfolding moved_share
  moved_ended r = refl

  moved_closed : (r : Row) (t : Bool) → pending r ≡ t → moved_share party a h (if t then with_status 3 r else r) ≡ moved_share party a h r
  moved_closed r true e = moved_ended r ∙ sym (moved_idle r e)
  moved_closed r false e = refl

  pub moved_snoc : (rows : List Row) (r : Row)
      → moved party (rows ++ r ∷ []) a h ≡ moved party rows a h + counted (λ r. confirmed r && includes_hour h r && eqb (party r) a) r
  unfolding moved
  moved_snoc rows r = total_snoc (counted (λ r. confirmed r && includes_hour h r && eqb (party r) a)) rows r

  -- rows that are added as pending move nothing
  pub moved_added : (rows : List Row) {added : List Row} → Each (λ r. pending r ≡ true) added → moved party (rows ++ added) a h ≡ moved party rows a h
  unfolding moved moved_share
  moved_added rows {added} e =
      omega (arith, total_append (moved_share party a h) rows added, total_same (moved_share party a h) (λ r. 0) moved_idle e, total_zero added)

  -- confirm moves the row's quantity
  pub moved_confirm : ((status : ℕ) (r : Row) → party (with_status status r) ≡ party r)
      → (rows : List Row) (n : ℕ) → pending (nth rows n no_row) ≡ true
      → moved party (mark n 2 rows) a h ≡ moved party rows a h + share party a h (nth rows n no_row)
  unfolding moved moved_share
  moved_confirm kept rows n e =
      let i = pending_inside rows n e in
      let t = total_mark (moved_share party a h) n 2 rows i.0 i.1 in
      let f = moved_idle (nth rows n no_row) e in
      let g : moved_share party a h (with_status 2 (nth rows n no_row)) ≡ share party a h (nth rows n no_row) = rw kept in
      omega arith

  -- withdraw moves nothing
  pub moved_withdraw : (rows : List Row) (n : ℕ) → pending (nth rows n no_row) ≡ true
      → moved party (mark n 3 rows) a h ≡ moved party rows a h
  unfolding moved moved_share
  moved_withdraw rows n e =
      let i = pending_inside rows n e in
      let t = total_mark (moved_share party a h) n 3 rows i.0 i.1 in
      let f = moved_idle (nth rows n no_row) e in
      let g = moved_ended (nth rows n no_row) in
      omega arith

  -- nor does the close of the gate
  pub moved_close : (rows : List Row) → moved party (closed rows) a h ≡ moved party rows a h
  unfolding moved moved_share closed
  moved_close rows =
      total_map (moved_share party a h) (λ r. if pending r then with_status 3 r else r) rows
      ∙ total_cong _ _ rows (λ r. moved_closed r (pending r) refl)

-- ---- what waits

module _ (side a h : ℕ) where
  waiting_held : (r : Row) → pending r ≡ true → waiting_share side a h r ≡ weight side a h r
  unfolding waiting_share
  waiting_held r e = rw e

  waiting_ended : (status : ℕ) (r : Row) → eqb status 1 ≡ false → waiting_share side a h (with_status status r) ≡ 0
  unfolding waiting_share
  waiting_ended status r e = rw e

  waiting_closed : (r : Row) (t : Bool) → pending r ≡ t → waiting_share side a h (if t then with_status 3 r else r) ≡ 0
  unfolding waiting_share
  waiting_closed r true e = refl
  waiting_closed r false e = rw e

  pub waiting_snoc : (rows : List Row) (r : Row)
      → waiting side (rows ++ r ∷ []) a h
      ≡ waiting side rows a h + counted (λ r. pending r && includes_hour h r && eqb r.proposer a && eqb r.side side) r
  unfolding waiting
  waiting_snoc rows r = total_snoc (counted (λ r. pending r && includes_hour h r && eqb r.proposer a && eqb r.side side)) rows r

  -- a pending row that is confirmed or withdrawn no longer waits
  pub waiting_end : (rows : List Row) (n status : ℕ) → pending (nth rows n no_row) ≡ true → eqb status 1 ≡ false
      → waiting side (mark n status rows) a h + weight side a h (nth rows n no_row) ≡ waiting side rows a h
  unfolding waiting waiting_share
  waiting_end rows n status e d =
      let i = pending_inside rows n e in
      let t = total_mark (waiting_share side a h) n status rows i.0 i.1 in
      let f = waiting_held (nth rows n no_row) e in
      let g = waiting_ended status (nth rows n no_row) d in
      omega arith

  -- after the close of the gate nothing waits
  pub waiting_close : (rows : List Row) → waiting side (closed rows) a h ≡ 0
  unfolding waiting waiting_share closed
  waiting_close rows =
      total_map (waiting_share side a h) (λ r. if pending r then with_status 3 r else r) rows
      ∙ total_cong _ (λ r. 0) rows (λ r. waiting_closed r (pending r) refl)
      ∙ total_zero rows

  -- a pending row counts for its proposer only
  pub weight_of_others : (r : Row) → eqb r.proposer a ≡ false → weight side a h r ≡ 0
  weight_of_others r e = rw e (go (includes_hour h r))
    where
      go : (t : Bool) → (if t && false && eqb r.side side then r.quantity.0 else 0) ≡ 0
      go true = refl
      go false = refl

  waiting_idle : (r : Row) → (pending r ≡ true) × (eqb r.proposer a ≡ false) → waiting_share side a h r ≡ 0
  waiting_idle r e = waiting_held r e.0 ∙ weight_of_others r e.1

  -- rows that others add do not wait on the account
  pub waiting_added : (rows : List Row) {added : List Row} → Each (λ r. (pending r ≡ true) × (eqb r.proposer a ≡ false)) added
      → waiting side (rows ++ added) a h ≡ waiting side rows a h
  unfolding waiting waiting_share
  waiting_added rows {added} e =
      omega (arith, total_append (waiting_share side a h) rows added, total_same (waiting_share side a h) (λ r. 0) waiting_idle e, total_zero added)

  -- what waits on another account than the proposer stands
  pub waiting_of_others : (rows : List Row) (n status : ℕ) → pending (nth rows n no_row) ≡ true → eqb status 1 ≡ false
      → eqb (nth rows n no_row).proposer a ≡ false → waiting side (mark n status rows) a h ≡ waiting side rows a h
  waiting_of_others rows n status e d o =
      let w = waiting_end rows n status e d in let z = weight_of_others (nth rows n no_row) o in omega arith

-- ---- an account hour

-- rows that others add leave an account's hour
pub hour_added : (rows : List Row) {added : List Row} (a h : ℕ) → Each (λ r. (pending r ≡ true) × (eqb r.proposer a ≡ false)) added
    → account_hour (rows ++ added) a h ≡ account_hour rows a h
hour_added rows a h e =
    let waits = each_map (λ r w. w.0) e in
    let b = moved_added buyer a h rows waits in
    let s = moved_added seller a h rows waits in
    rw (b, s, waiting_added 1 a h rows e, waiting_added 2 a h rows e)

-- confirm, for another account than the proposer: the row's quantity is bought or sold, what waits stands
pub hour_confirm : (rows : List Row) (n a h : ℕ) → pending (nth rows n no_row) ≡ true → eqb (nth rows n no_row).proposer a ≡ false
    → account_hour (mark n 2 rows) a h
    ≡ record {
      net =
          record {
            bought = kwh (bought rows a h + share buyer a h (nth rows n no_row));
            sold = kwh (sold rows a h + share seller a h (nth rows n no_row));
          };
      sales = kwh (pending_sales rows a h);
      purchases = kwh (pending_purchases rows a h);
    }
hour_confirm rows n a h e o =
    let b = moved_confirm buyer a h (λ status r. refl) rows n e in
    let s = moved_confirm seller a h (λ status r. refl) rows n e in
    rw (b, s, waiting_of_others 1 a h rows n 2 e refl o, waiting_of_others 2 a h rows n 2 e refl o)

-- with one row more it is the hour after that trade
pub hour_takes : (rows : List Row) (r : Row) (a h : ℕ) → account_hour (rows ++ r ∷ []) a h ≡ after_trade a h (account_hour rows a h) r
unfolding after_trade
hour_takes rows r a h =
    rw (moved_snoc buyer a h rows r, moved_snoc seller a h rows r, waiting_snoc 1 a h rows r, waiting_snoc 2 a h rows r)

-- with rows more it is the hour after those trades
pub hour_takes_all : (rows added : List Row) (a h : ℕ) → account_hour (rows ++ added) a h ≡ after_trades a h (account_hour rows a h) added
hour_takes_all rows [] a h = rw append-nil
hour_takes_all rows (r ∷ rs) a h =
    ap (λ (l : List Row). account_hour l a h) (sym (append_assoc rows (r ∷ []) rs))
    ∙ hour_takes_all (rows ++ r ∷ []) rs a h
    ∙ ap (λ (x : AccountHour). after_trades a h x rs) (hour_takes rows r a h)

-- pending rows more move no net
pub nets_stay : (rows : List Row) {added : List Row} (a h : ℕ) → Each (λ r. pending r ≡ true) added → net_of (rows ++ added) a h ≡ net_of rows a h
nets_stay rows a h e = rw (moved_added buyer a h rows e, moved_added seller a h rows e)

pub pending_move_nothing : (rows : List Row) {added : List Row} (a h : ℕ) → Each (λ r. pending r ≡ true) added
    → (after_trades a h (account_hour rows a h) added).net ≡ net_of rows a h
pending_move_nothing rows {added} a h e = ap (λ (x : AccountHour). x.net) (sym (hour_takes_all rows added a h)) ∙ nets_stay rows a h e

-- so a margin that they break is broken with them in, and so exposed are operators with them in
pub broken_added : (u : Setup) (rows added : List Row) (a : ℕ) → broken_hour u (rows ++ added) a ≡ broken_by u rows added a
unfolding broken_hour broken_by
broken_added u rows added a =
    ap (λ (x : ℕ → AccountHour). find (λ h. not (keeps_margins (margins_at u a h) (x h))) (up_to (periods u))) (λ i h. hour_takes_all rows added a h i)

pub exposure_added : (u : Setup) (rows added : List Row) (o : ℕ) → exposure u (rows ++ added) o ≡ exposure_with u rows added o
exposure_added u rows added o =
    ap (λ (x : ℕ → ℕ → AccountHour). exposure_of u (estimate_at u) x o) (λ i a h. hour_takes_all rows added a h i)

-- confirm, for another account than the proposer: it takes the row as one that is confirmed
pub hour_takes_confirmed : (rows : List Row) (n a h : ℕ) → pending (nth rows n no_row) ≡ true → eqb (nth rows n no_row).proposer a ≡ false
    → account_hour (mark n 2 rows) a h ≡ after_trade a h (account_hour rows a h) (with_status 2 (nth rows n no_row))
unfolding after_trade
hour_takes_confirmed rows n a h e o =
    hour_confirm rows n a h e o ∙ rw (add-zero (waiting 1 rows a h), add-zero (waiting 2 rows a h))

-- close gate: net stands, nothing waits
pub hour_close : (rows : List Row) (a h : ℕ)
    → account_hour (closed rows) a h ≡ record { net = net_of rows a h; sales = kwh 0; purchases = kwh 0 }
hour_close rows a h =
    rw (moved_close buyer a h rows, moved_close seller a h rows, waiting_close 1 a h rows, waiting_close 2 a h rows)
