-- What a schedule is compared with, in the values that code has at hand: the cells of the table of what is used up, the limits, the price.
use Rattle.std.specs.Prelude.{ℕ, ◌+◌, ◌-◌, ◌*◌, ◌≤◌, ◌≡◌, List, ◌∷◌, Bool, ◌||◌, get_or, replicate, eqb, leb, ltb, if◌then◌else◌}
use Rattle.units.specs.declared.CentsPerMwh.{CentsPerMwh}
use Rattle.rules.specs.declared.Net.{Net}
use Rattle.rules.specs.declared.Point.{Point}
use Rattle.rules.specs.declared.Schedule.{Schedule}
use Rattle.rules.specs.Limits.{most_hours}
use Rattle.rules.specs.Books.{Setup, injecting_side, mixed_kind}
use Rattle.rules.specs.Settlement.{Judged, account_of}
use Rattle.valuation.specs.declared.congruity.Judgement.{Judgement}
use Rattle.valuation.specs.declared.congruity.Judgement.TheVariants.{Registered, OverPoint, OverAccount, NotTaken}
use Rattle.valuation.specs.Tables.{setup_in, nets_in, cell_for, point_cells, used_cells, judged_as, JudgedInRange, UsedBy, UsedIn, judge_in}

-- the table has a cell for the holder of a limit, of so many at most, in the schedule's hour and side
pub record InCells (most holder : ℕ) (x : Schedule) : Type 0 where
  pub holder_low : 1 ≤ holder
  pub holder_high : holder ≤ most
  pub hour_low : 1 ≤ x.hour
  pub hour_high : x.hour ≤ most_hours
  pub side_low : 1 ≤ x.side
  pub side_high : x.side ≤ 2

-- the table before any schedule is judged
unfoldable pub nothing_used : List ℕ
nothing_used = replicate used_cells 0

-- the point's greatest amount on a side
abbrev pub greatest : Point → ℕ → ℕ
greatest p side = if eqb side injecting_side then p.injection.0 else p.withdrawal.0

-- what a net position leaves for a side: minus net for injections and net for withdrawals, or 0
abbrev pub left_by : Net → ℕ → ℕ
left_by n side = if eqb side injecting_side then n.sold.0 - n.bought.0 else n.bought.0 - n.sold.0

-- the schedule, with what is used up already, passes its point's greatest amount
abbrev pub over_point : List ℕ → Point → Schedule → Bool
over_point used p x = ltb (greatest p x.side) (get_or used (cell_for x.point x) 0 + x.quantity.0)

-- and what the net position of its point's account leaves
abbrev pub over_account : List ℕ → List ℕ → Point → Schedule → Bool
over_account book used p x =
    ltb (left_by (nets_in book p.account x.hour) x.side) (get_or used (point_cells + cell_for p.account x) 0 + x.quantity.0)

-- the number, in the price table, of the price that is met: the zone's for injections and on mixed points, else PUN
abbrev pub price_number : ℕ → Point → Schedule → ℕ
price_number hours p x = if eqb x.side injecting_side || eqb p.kind mixed_kind then hours * p.zone + x.hour else x.hour

-- taken at the price that is met
abbrev pub taken_at : Schedule → CentsPerMwh → Bool
taken_at x met = if eqb x.side injecting_side then leb x.price.0 met.0 else leb met.0 x.price.0

-- the number of a result
abbrev pub result_number : Judgement → ℕ
result_number Registered = 0
result_number OverPoint = 1
result_number OverAccount = 2
result_number NotTaken = 3

-- the result, by the three tests
abbrev pub result_by : Bool → Bool → Bool → ℕ
result_by over-point over-account taken = if over-point then 1 else (if over-account then 2 else (if taken then 0 else 3))

-- the result is what the rules say, after any schedules in range that used up what the table holds
abbrev pub ResultIn : List ℕ → List ℕ → List ℕ → Schedule → ℕ → Type 0
ResultIn book prices used x result =
    (before : List Judged) → UsedIn book prices before used → JudgedInRange (setup_in book) before → result ≡ judge_in book prices before x

-- `after` is the table `used` with the schedule of that result counted, wherever its account is that of its point
abbrev pub UsedWith : ℕ → Schedule → ℕ → List ℕ → List ℕ → Type 0
UsedWith account x result used after =
    (u : Setup) (net : ℕ → ℕ → Net) (t : List CentsPerMwh) (before : List Judged) (place : ℕ) → account_of u net t x ≡ account
    → UsedBy u net t before used
    → UsedBy u net t (judged_as place x result ∷ before) after
