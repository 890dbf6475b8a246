-- The result of a schedule in a book, by what the table says is used up: its point, its account and the price that it meets are the book's,
-- and the three tests are the definition's.
use Rattle.std.specs.Prelude.{if◌then◌else◌}
use Prim.Native.Nat.{ℕ, ◌+◌, ◌*◌, ◌≤◌}
use mathlib.Core.Path.{◌≡◌, refl, sym, ap, ◌∙◌}
use mathlib.Core.List.{List}
use mathlib.Core.Bool.{Bool, true, false, ◌&&◌, ◌||◌}
use native.Mathlib.Nat.{mul-add, mul-le-mul_left}
use native.Mathlib.Omega.{arith}
use lib.ListN.{length, get_or}
use lib.Dec.{eqb, leb, ltb}
use Rattle.units.specs.Units.{cents_per_mwh}
use Rattle.units.specs.declared.CentsPerMwh.{CentsPerMwh}
use Rattle.rules.specs.declared.Counts.{Counts}
use Rattle.rules.specs.declared.Net.{Net}
use Rattle.rules.specs.declared.Point.{Point}
use Rattle.rules.specs.declared.Schedule.{Schedule}
use Rattle.rules.specs.Basics.{nth, Each}
use Rattle.rules.specs.Limits.{most_points, most_accounts}
use Rattle.rules.specs.Books.{Setup, no_point, account_count, point_at, periods}
use Rattle.rules.specs.Opening.{counts_in, points_in, setup_of, price_width}
use Rattle.rules.specs.Settlement.{Judged, used, account_of, same_hour_side, point_limit, account_limit, met_price, taken, judge, price_count}
use Rattle.rules.proofs.Basics.Searches.{each_nth, each_map}
use Rattle.setup.specs.Faults.{Whole}
use Rattle.image.specs.Valid.{is_sound, schedule_ok}
use Rattle.image.proofs.Sound.Soundness.{SoundSchedule, sound_schedule}
use Rattle.image.proofs.Setups.SetupRanges.{SoundPoint}
use Rattle.book.proofs.StateLaws.{book_is_sound}
use Rattle.book.proofs.BookRows.{counts_in_lem, setup_in_lem, setup_tabled, values_in, hours_read, hours_few}
use Rattle.valuation.specs.Tables.{Priced, OnPoint, setup_in, nets_in, prices_of, numbered_price, cell_for, point_cells, UsedBy}
use Rattle.valuation.specs.Congruity.{InCells, greatest, left_by, over_point, over_account, price_number, taken_at, result_by, ResultIn}
use Rattle.valuation.proofs.PriceLaws.{price_by_number}
use Rattle.valuation.proofs.CellLaws.{used_in_cell}

-- ---- what is read of a book

-- a price's number, the zone's or PUN's, is in the table where the zone's is
number-within : (b : Bool) (m h n : ℕ) → 1 ≤ h → m + h ≤ n → (1 ≤ (if b then m + h else h)) × ((if b then m + h else h) ≤ n)
number-within true m h n l e = (omega arith, omega arith)
number-within false m h n l e = (omega arith, omega arith)

module _ (s : List ℕ) (h : is_sound s ≡ true) (x : Schedule) (ok : schedule_ok (setup_in s) x ≡ true) where
  in_range_lem : SoundSchedule (setup_in s) x
  in_range_lem = sound_schedule (setup_in s) x ok

  -- its point is one of the book's
  pub point_stands : Whole s × (1 ≤ x.point) × (x.point ≤ (counts_in s).points)
  point_stands =
      ((setup_tabled s h).whole, in_range_lem.point_low, omega (arith, ap (λ (m : Counts). m.points) (counts_in_lem s h), in_range_lem.point_high))

  -- and in range
  pub point_sound : SoundPoint (setup_in s).accounts (setup_in s).zones (point_at (setup_in s) x.point)
  point_sound = each_nth no_point x.point (values_in s h).points_sound in_range_lem.point_low in_range_lem.point_high

  in_cells : (most holder : ℕ) → 1 ≤ holder → holder ≤ most → InCells most holder x
  in_cells most holder low high =
      record {
        holder_low = low;
        holder_high = high;
        hour_low = in_range_lem.hour_low;
        hour_high = omega (arith, in_range_lem.hour_high, hours_few s h);
        side_low = in_range_lem.side_low;
        side_high = in_range_lem.side_high;
      }

  -- its point and its account have their cells
  pub point_in_cells : InCells most_points x.point x
  point_in_cells =
      in_cells most_points x.point in_range_lem.point_low (omega (arith, in_range_lem.point_high, (book_is_sound s h).setup_sound.points_high))

  pub account_in_cells : InCells most_accounts (point_at (setup_in s) x.point).account x
  account_in_cells =
      in_cells most_accounts _ point_sound.account_low (omega (arith, point_sound.account_high, (book_is_sound s h).setup_sound.accounts_high))

  -- as was read
  pub account_read_in_cells : (p : Point) → p ≡ point_at (setup_in s) x.point → InCells most_accounts p.account x
  account_read_in_cells p e = rw e account_in_cells

  -- its account and its hour are the book's
  pub account_hour_stands : (p : Point) → p ≡ point_at (setup_in s) x.point
      → ((1 ≤ p.account) × (p.account ≤ account_count (setup_in s))) × ((1 ≤ x.hour) × (x.hour ≤ periods (setup_in s)))
  account_hour_stands p e = rw e ((point_sound.account_low, point_sound.account_high), (in_range_lem.hour_low, in_range_lem.hour_high))

  -- the point that was read is its point
  pub on_point : (p : Point) → p ≡ nth (points_in s) x.point no_point → OnPoint (setup_in s) p x
  unfolding setup_of
  on_point p e = record { in_range = ok; its_point = e ∙ ap (λ (u : Setup). point_at u x.point) (sym (setup_in_lem s h)) }

  -- the price that it meets is one of the table's
  pub price_stands : (prices : List ℕ) → Priced s prices → (n : Counts) (p : Point) → n ≡ counts_in s → p ≡ point_at (setup_in s) x.point
      → (1 ≤ price_number n.hours p x) × (price_width * price_number n.hours p x ≤ length prices)
  price_stands prices given n p en ep =
      let u = setup_in s in
      let zone = (point_at u x.point).zone in
      let zonal : Bool = eqb x.side 1 || eqb (point_at u x.point).kind 3 in
      let zones = mul-le-mul_left {m = zone} {n = u.zones} (periods u) point_sound.zone_high in
      let last : periods u * zone + x.hour ≤ price_count u = omega (arith, in_range_lem.hour_high, mul-add (periods u) 1 u.zones) in
      let k = number-within zonal (periods u * zone) x.hour (price_count u) in_range_lem.hour_low last in
      rw (hours_read s h n en, ep) (k.0, omega (arith, k.1, given.whole))

-- ---- the result by what is used up

-- the price of the number is the price that is met
met_price_lem : (b : Bool) (t : List CentsPerMwh) (m n : ℕ)
    → (nth t (if b then m else n) (cents_per_mwh 0)).0 ≡ (if b then (nth t m (cents_per_mwh 0)).0 else (nth t n (cents_per_mwh 0)).0)
met_price_lem true t m n = refl
met_price_lem false t m n = refl

-- taken at a price, by its amount
taken_at_lem : (b : Bool) (price m n : ℕ) → m ≡ n → (if b then leb price m else leb m price) ≡ (if b then leb price n else leb n price)
taken_at_lem b price m n e = rw e

module _ (u : Setup) (net : ℕ → ℕ → Net) (t : List CentsPerMwh) (x : Schedule) (before : List Judged) (table : List ℕ) (by : UsedBy u net t before table)
  where
    -- what is used up of its point and of its account stands in their cells
    used_of_point : InCells most_points x.point x → Each (λ j. InCells most_points j.schedule.point j.schedule) before
        → used (λ y. same_hour_side u net t x y && eqb x.point y.point) before ≡ get_or table (cell_for x.point x) 0
    used_of_point i e = used_in_cell most_points (λ y. y.point) x i e ∙ sym (by.by_point (cell_for x.point x) (omega arith))

    used_of_account : InCells most_accounts (account_of u net t x) x → Each (λ j. InCells most_accounts (account_of u net t j.schedule) j.schedule) before
        → used (λ y. same_hour_side u net t x y && eqb (account_of u net t x) (account_of u net t y)) before
        ≡ get_or table (point_cells + cell_for (account_of u net t x) x) 0
    used_of_account i e =
        used_in_cell most_accounts (account_of u net t) x i e ∙ sym (by.by_account (cell_for (account_of u net t x) x) (omega arith))

    -- a result by the three tests is the schedule's
    judged_by_tests : {a b c : Bool} (p : Point) → p ≡ point_at u x.point
        → used (λ y. same_hour_side u net t x y && eqb x.point y.point) before ≡ get_or table (cell_for x.point x) 0
        → used (λ y. same_hour_side u net t x y && eqb (account_of u net t x) (account_of u net t y)) before
        ≡ get_or table (point_cells + cell_for (account_of u net t x) x) 0
        → a ≡ ltb (greatest p x.side) (get_or table (cell_for x.point x) 0 + x.quantity.0)
        → b ≡ ltb (left_by (net p.account x.hour) x.side) (get_or table (point_cells + cell_for p.account x) 0 + x.quantity.0)
        → c ≡ taken_at x (nth t (price_number (periods u) p x) (cents_per_mwh 0))
        → result_by a b c ≡ judge u net t before x
    unfolding judge
    judged_by_tests {a} {b} {c} p e up ua ta tb tc =
        let pa : a ≡ ltb (point_limit u net t x) (used (λ y. same_hour_side u net t x y && eqb x.point y.point) before + x.quantity.0) =
        ta ∙ rw (e, up) in
        let pb : b
        ≡ ltb (account_limit u net t x) (used (λ y. same_hour_side u net t x y && eqb (account_of u net t x) (account_of u net t y)) before + x.quantity.0) =
        tb ∙ rw (e, ua) in
        let pc : c ≡ taken u net t x =
        tc ∙ rw e (taken_at_lem (eqb x.side 1) x.price.0 _ (met_price u net t x) (met_price_lem (eqb x.side 1 || eqb (point_at u x.point).kind 3) t _ _)) in
        rw (pa, pb, pc)

-- the result of a schedule in a book, after those that used up what the table says
pub result_judged : (s prices table : List ℕ) (x : Schedule) → Priced s prices → schedule_ok (setup_in s) x ≡ true
    → (n : Counts) (p : Point) {a b c : Bool} → n ≡ counts_in s → p ≡ point_at (setup_in s) x.point
    → a ≡ over_point table p x → b ≡ over_account s table p x → c ≡ taken_at x (numbered_price prices (price_number n.hours p x))
    → ResultIn s prices table x (result_by a b c)
result_judged s prices table x given ok n p {c = c} en ep ta tb tc before by each =
    let h = given.is_sound in
    let hours : n.hours ≡ periods (setup_in s) = hours_read s h n en in
    let listed = price_stands s h x ok prices given n p en ep in
    let met = price_by_number prices _ (setup_in s) given.whole listed.0 listed.1 refl in
    let taken : c ≡ taken_at x (nth (prices_of s prices) (price_number (periods (setup_in s)) p x) (cents_per_mwh 0)) = rw hours at (tc ∙ ap (taken_at x) met) in
    let points = each_map (λ j o. point_in_cells s h j.schedule o) each in
    let accounts = each_map (λ j o. account_in_cells s h j.schedule o) each in
    judged_by_tests (setup_in s) (nets_in s) (prices_of s prices) x before table by p ep
    (used_of_point (setup_in s) (nets_in s) (prices_of s prices) x before table by (point_in_cells s h x ok) points)
    (used_of_account (setup_in s) (nets_in s) (prices_of s prices) x before table by (account_in_cells s h x ok) accounts)
    ta
    tb
    taken
