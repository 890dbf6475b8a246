-- What the tests of a sound set-up, row and schedule say, each by its name, and that they say no more.
use Rattle.std.specs.Prelude.{Option, None}
use Prim.Native.Nat.{ℕ, zero, suc, ◌+◌, ◌^◌, ◌≤◌, ◌<◌}
use mathlib.Core.Path.{◌≡◌, refl}
use mathlib.Core.Bool.{Bool, true, false, not, ◌||◌}
use native.Mathlib.Omega.{arith}
use lib.ListN.{length, replicate}
use lib.Dec.{eqb}
use borrow.Author.Tests.{eqb-true, eqb-false, leb-true, ltb-true, eq-eqb, ne_eqb, le-leb, lt-ltb, not-true}
use Rattle.units.specs.Units.{cents}
use Rattle.rules.specs.declared.Row.{Row}
use Rattle.rules.specs.declared.Schedule.{Schedule}
use Rattle.rules.specs.Basics.{every, is_some, counting, up_to, Each, nil, cons}
use Rattle.rules.specs.Limits.{most_energy, most_price, fewest_hours, most_hours, most_operators, most_accounts, most_points, most_zones}
use Rattle.rules.specs.Books.{Account, Setup, counts_of, operator_count, account_count, point_count, periods}
use Rattle.rules.specs.Opening.{bad_counts, operators_of, faulty_offset}
use Rattle.rules.proofs.Basics.Tests.{Holds, ◌and◌, no_more, all_holds, holds_all, and_both, within_true}
use Rattle.rules.proofs.Setups.SetupShape.{in_range_lem as counts-in-range}
use Rattle.rules.proofs.Basics.Searches.{none_of, each_map, every_each, each_every, counted_has}
use Rattle.image.specs.Valid.{margins_by_hour, setup_tests, setup_ok, row_tests, row_ok, schedule_tests, schedule_ok}

-- ---- two tests of which one holds

-- a test holds where the other fails
pub or_else : (s t : Bool) → s || t ≡ true → s ≡ false → t ≡ true
or_else true t h e = cc
or_else false t h e = h

pub or_by : (s t : Bool) → (s ≡ false → t ≡ true) → s || t ≡ true
or_by true t f = refl
or_by false t f = f refl

-- ---- counted numbers

pub every_up_to : (p : ℕ → Bool) (n : ℕ) → every p (up_to n) ≡ true → (k : ℕ) → 1 ≤ k → k ≤ n → p k ≡ true
every_up_to p n h k low high = counted_has n 1 k (every_each p (up_to n) h) low (omega arith)

counting_each : {P : ℕ → Type 0} (n from : ℕ) → ((k : ℕ) → from ≤ k → k < from + n → P k) → Each P (counting n from)
unfolding counting
counting_each zero from f = nil
counting_each (suc n) from f = cons (f from (omega arith) (omega arith)) (counting_each n (suc from) (λ k l m. f k (omega arith) (omega arith)))

pub up_to_every : (p : ℕ → Bool) (n : ℕ) → ((k : ℕ) → 1 ≤ k → k ≤ n → p k ≡ true) → every p (up_to n) ≡ true
up_to_every p n f = each_every p (counting_each n 1 (λ k l m. f k l (omega arith)))

-- ---- the set-up

-- an account has a lower and an upper margin for each hour
pub record MarginsAll (hours : ℕ) (x : Account) : Type 0 where
  pub lower_all : length x.lower ≡ hours
  pub upper_all : length x.upper ≡ hours

sound_margins : (hours : ℕ) (x : Account) → margins_by_hour hours x ≡ true → MarginsAll hours x
sound_margins hours x h =
    let w = (and_both (eqb (length x.lower) hours) (eqb (length x.upper) hours)).0 h in
    record { lower_all = eqb-true _ _ w.0; upper_all = eqb-true _ _ w.1 }

pub margins_sound : (hours : ℕ) (x : Account) → MarginsAll hours x → margins_by_hour hours x ≡ true
margins_sound hours x m =
    (and_both (eqb (length x.lower) hours) (eqb (length x.upper) hours)).1 (eq-eqb _ _ m.lower_all, eq-eqb _ _ m.upper_all)

pub record SoundSetup (u : Setup) : Type 0 where
  pub hours_low : fewest_hours ≤ u.hours
  pub hours_high : u.hours ≤ most_hours
  pub operators_low : 1 ≤ operator_count u
  pub operators_high : operator_count u ≤ most_operators
  pub accounts_low : 1 ≤ account_count u
  pub accounts_high : account_count u ≤ most_accounts
  pub points_high : point_count u ≤ most_points
  pub zones_low : 1 ≤ u.zones
  pub zones_high : u.zones ≤ most_zones
  pub estimates_all : length u.estimates ≡ u.hours
  pub margins_all : Each (MarginsAll u.hours) u.accounts
  pub in_range : faulty_offset u (operators_of (replicate (operator_count u) (cents 0)) u.maintenance) ≡ None

-- an option that holds nothing
pub not_some : {A : Type 0} (o : Option A) → not (is_some o) ≡ true → o ≡ None
not_some o h = none_of o (not-true (is_some o) h)

setup_facts : (u : Setup) → Holds (setup_tests u) → SoundSetup u
setup_facts u (counts and estimates and margins and values and _) =
    let n = counts-in-range (counts_of u) (not-true _ counts) in
    record {
      hours_low = n.hours.least;
      hours_high = n.hours.most;
      operators_low = n.operators.least;
      operators_high = n.operators.most;
      accounts_low = n.accounts.least;
      accounts_high = n.accounts.most;
      points_high = n.points;
      zones_low = n.zones.least;
      zones_high = n.zones.most;
      estimates_all = eqb-true _ _ estimates;
      margins_all = each_map (sound_margins u.hours) (every_each (margins_by_hour u.hours) u.accounts margins);
      in_range = not_some _ values;
    }

pub sound_setup : (u : Setup) → setup_ok u ≡ true → SoundSetup u
unfolding setup_ok
sound_setup u h = setup_facts u (all_holds (setup_tests u) h)

pub setup_sound : (u : Setup) → SoundSetup u → setup_ok u ≡ true
unfolding setup_ok bad_counts
setup_sound u s =
    let hs = (within_true fewest_hours u.hours most_hours).1 (s.hours_low, s.hours_high) in
    let os = (within_true 1 (operator_count u) most_operators).1 (s.operators_low, s.operators_high) in
    let cs = (within_true 1 (account_count u) most_accounts).1 (s.accounts_low, s.accounts_high) in
    let ps = le-leb (point_count u) most_points s.points_high in
    let zs = (within_true 1 u.zones most_zones).1 (s.zones_low, s.zones_high) in
    holds_all (setup_tests u) (
    (rw (hs, os, cs, ps, zs))
    and eq-eqb _ _ s.estimates_all
    and each_every (margins_by_hour u.hours) (each_map (margins_sound u.hours) s.margins_all)
    and (rw s.in_range)
    and no_more
    )

-- ---- rows

pub record SoundRow (u : Setup) (r : Row) : Type 0 where
  pub proposer_low : 1 ≤ r.proposer
  pub proposer_high : r.proposer ≤ account_count u
  pub counterparty_low : 1 ≤ r.counterparty
  pub counterparty_high : r.counterparty ≤ account_count u
  pub two_accounts : r.proposer ≡ r.counterparty → ⊥
  pub code_fits : r.code < 256 ^ 8
  pub side_low : 1 ≤ r.side
  pub side_high : r.side ≤ 2
  pub first_low : 1 ≤ r.first
  pub in_order : r.first ≤ r.last
  pub last_high : r.last ≤ periods u
  pub quantity_low : 1 ≤ r.quantity.0
  pub quantity_high : r.quantity.0 ≤ most_energy
  pub status_low : 1 ≤ r.status
  pub status_high : r.status ≤ 3

row_facts : (u : Setup) (r : Row) → Holds (row_tests u r) → SoundRow u r
row_facts u r (proposer and counterparty and differ and code and side and first and last and quantity and status and _) =
    let p = (within_true 1 r.proposer (account_count u)).0 proposer in
    let c = (within_true 1 r.counterparty (account_count u)).0 counterparty in
    let d = (within_true 1 r.side 2).0 side in
    let f = (within_true 1 r.first (periods u)).0 first in
    let l = (within_true r.first r.last (periods u)).0 last in
    let q = (within_true 1 r.quantity.0 most_energy).0 quantity in
    let s = (within_true 1 r.status 3).0 status in
    record {
      proposer_low = p.0;
      proposer_high = p.1;
      counterparty_low = c.0;
      counterparty_high = c.1;
      two_accounts = eqb-false _ _ (not-true _ differ);
      code_fits = ltb-true _ _ code;
      side_low = d.0;
      side_high = d.1;
      first_low = f.0;
      in_order = l.0;
      last_high = l.1;
      quantity_low = q.0;
      quantity_high = q.1;
      status_low = s.0;
      status_high = s.1;
    }

pub sound_row : (u : Setup) (r : Row) → row_ok u r ≡ true → SoundRow u r
unfolding row_ok
sound_row u r h = row_facts u r (all_holds (row_tests u r) h)

pub row_sound : (u : Setup) (r : Row) → SoundRow u r → row_ok u r ≡ true
unfolding row_ok
row_sound u r s =
    holds_all (row_tests u r) (
    (within_true 1 r.proposer (account_count u)).1 (s.proposer_low, s.proposer_high)
    and (within_true 1 r.counterparty (account_count u)).1 (s.counterparty_low, s.counterparty_high)
    and (rw (ne_eqb _ _ s.two_accounts))
    and lt-ltb _ _ s.code_fits
    and (within_true 1 r.side 2).1 (s.side_low, s.side_high)
    and (within_true 1 r.first (periods u)).1 (s.first_low, omega (arith, s.in_order, s.last_high))
    and (within_true r.first r.last (periods u)).1 (s.in_order, s.last_high)
    and (within_true 1 r.quantity.0 most_energy).1 (s.quantity_low, s.quantity_high)
    and (within_true 1 r.status 3).1 (s.status_low, s.status_high)
    and no_more
    )

-- ---- schedules

pub record SoundSchedule (u : Setup) (x : Schedule) : Type 0 where
  pub point_low : 1 ≤ x.point
  pub point_high : x.point ≤ point_count u
  pub side_low : 1 ≤ x.side
  pub side_high : x.side ≤ 2
  pub hour_low : 1 ≤ x.hour
  pub hour_high : x.hour ≤ periods u
  pub quantity_low : 1 ≤ x.quantity.0
  pub quantity_high : x.quantity.0 ≤ most_energy
  pub price_high : x.price.0 ≤ most_price

schedule_facts : (u : Setup) (x : Schedule) → Holds (schedule_tests u x) → SoundSchedule u x
schedule_facts u x (point and side and hour and quantity and price and _) =
    let p = (within_true 1 x.point (point_count u)).0 point in
    let d = (within_true 1 x.side 2).0 side in
    let r = (within_true 1 x.hour (periods u)).0 hour in
    let q = (within_true 1 x.quantity.0 most_energy).0 quantity in
    record {
      point_low = p.0;
      point_high = p.1;
      side_low = d.0;
      side_high = d.1;
      hour_low = r.0;
      hour_high = r.1;
      quantity_low = q.0;
      quantity_high = q.1;
      price_high = leb-true _ _ price;
    }

pub sound_schedule : (u : Setup) (x : Schedule) → schedule_ok u x ≡ true → SoundSchedule u x
unfolding schedule_ok
sound_schedule u x h = schedule_facts u x (all_holds (schedule_tests u x) h)

pub schedule_sound : (u : Setup) (x : Schedule) → SoundSchedule u x → schedule_ok u x ≡ true
unfolding schedule_ok
schedule_sound u x s =
    holds_all (schedule_tests u x) (
    (within_true 1 x.point (point_count u)).1 (s.point_low, s.point_high)
    and (within_true 1 x.side 2).1 (s.side_low, s.side_high)
    and (within_true 1 x.hour (periods u)).1 (s.hour_low, s.hour_high)
    and (within_true 1 x.quantity.0 most_energy).1 (s.quantity_low, s.quantity_high)
    and le-leb _ _ s.price_high
    and no_more
    )
