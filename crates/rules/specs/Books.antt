-- The plain book (document 01, "Opening"; document 02, note 4): set-up, phase, rows, schedules, while a batch is open the part saved at
-- its opening, and the asks that stand.
-- It holds no sums: net positions and exposures are functions of the rows.
use Rattle.std.specs.Prelude.{ℕ, List, [], length, replicate, Option, None}
use Rattle.units.specs.declared.Kwh.{Kwh}
use Rattle.units.specs.declared.Cents.{Cents}
use Rattle.units.specs.declared.CentsPerMwh.{CentsPerMwh}
use Rattle.units.specs.Units.{kwh, cents, cents_per_mwh}
use Rattle.rules.specs.declared.phases.Phase.{Phase}
use Rattle.rules.specs.declared.phases.Phase.TheVariants.{Registration, Schedules, Settled}
use Rattle.rules.specs.declared.Counts.{Counts}
use Rattle.rules.specs.declared.Margins.{Margins}
use Rattle.rules.specs.declared.Point.{Point}
use Rattle.rules.specs.declared.Row.{Row}
use Rattle.rules.specs.declared.Schedule.{Schedule}
use Rattle.rules.specs.Basics.{nth}
use Rattle.rules.specs.Limits.{most_accounts}

-- ---- the paper's numbers

-- status of a row
abbrev pub pending_status : ℕ
pending_status = 1

abbrev pub confirmed_status : ℕ
confirmed_status = 2

abbrev pub withdrawn_status : ℕ
withdrawn_status = 3

-- side of a row: the proposer sells, or it buys
abbrev pub selling_side : ℕ
selling_side = 1

abbrev pub buying_side : ℕ
buying_side = 2

-- side of a schedule
abbrev pub injecting_side : ℕ
injecting_side = 1

abbrev pub withdrawing_side : ℕ
withdrawing_side = 2

-- kind of an account or a point; points only are mixed
abbrev pub injection_kind : ℕ
injection_kind = 1

abbrev pub withdrawal_kind : ℕ
withdrawal_kind = 2

abbrev pub mixed_kind : ℕ
mixed_kind = 3

-- phase of a day
abbrev pub registration_phase : ℕ
registration_phase = 1

abbrev pub schedules_phase : ℕ
schedules_phase = 2

abbrev pub settled_phase : ℕ
settled_phase = 3

abbrev pub phase_number : Phase → ℕ
phase_number Registration = registration_phase
phase_number Schedules = schedules_phase
phase_number Settled = settled_phase

-- ---- the book

-- an account: its operator, its kind, and its lower and its upper margin of each hour
pub record Account : Type 0 where
  pub operator : ℕ
  pub kind : ℕ
  pub lower : List Kwh
  pub upper : List Kwh

-- what of the set-up holds all day; maintenance by operator, per thousand
pub record Setup : Type 0 where
  pub hours : ℕ
  pub zones : ℕ
  pub estimates : List CentsPerMwh
  pub maintenance : List ℕ
  pub accounts : List Account
  pub points : List Point

-- what an open batch saves and undo restores: the guarantees in force, by operator, and the rows, by number
pub record Part : Type 0 where
  pub guarantees : List Cents
  pub rows : List Row

-- asks: a place for each account number that a day may have, with the row that the account asked for, if its ask stands
pub record Book : Type 0 where
  pub setup : Setup
  pub phase : ℕ
  pub part : Part
  pub schedules : List Schedule
  pub saved : Option Part
  pub asks : List (Option Row)

-- ---- a part and a book with one field changed

abbrev pub part_guarantees : Part → List Cents → Part
part_guarantees p gs = record { guarantees = gs; rows = p.rows }

abbrev pub part_rows : Part → List Row → Part
part_rows p rows = record { guarantees = p.guarantees; rows = rows }

abbrev pub with_phase : Book → ℕ → Book
with_phase b phase = record { setup = b.setup; phase = phase; part = b.part; schedules = b.schedules; saved = b.saved; asks = b.asks }

abbrev pub with_part : Book → Part → Book
with_part b part = record { setup = b.setup; phase = b.phase; part = part; schedules = b.schedules; saved = b.saved; asks = b.asks }

abbrev pub with_schedules : Book → List Schedule → Book
with_schedules b xs = record { setup = b.setup; phase = b.phase; part = b.part; schedules = xs; saved = b.saved; asks = b.asks }

abbrev pub with_saved : Book → Option Part → Book
with_saved b saved = record { setup = b.setup; phase = b.phase; part = b.part; schedules = b.schedules; saved = saved; asks = b.asks }

abbrev pub with_asks : Book → List (Option Row) → Book
with_asks b asks =
    record { setup = b.setup; phase = b.phase; part = b.part; schedules = b.schedules; saved = b.saved; asks = asks }

abbrev pub with_guarantees : Book → List Cents → Book
with_guarantees b gs = with_part b (part_guarantees b.part gs)

abbrev pub with_rows : Book → List Row → Book
with_rows b rows = with_part b (part_rows b.part rows)

-- ---- periods: what a day is divided into, and is traded, scheduled and settled by

abbrev pub periods : Setup → ℕ
periods u = u.hours

-- the hour that holds a period
abbrev pub hour_of : Setup → ℕ → ℕ
hour_of u p = p

-- ---- entries by number, from 1; what is named `no…` is given for a number that no book has

abbrev pub no_account : Account
no_account = record { operator = 0; kind = 0; lower = []; upper = [] }

abbrev pub no_point : Point
no_point = record { account = 0; kind = 0; zone = 0; injection = kwh 0; withdrawal = kwh 0 }

abbrev pub no_row : Row
no_row = record { proposer = 0; counterparty = 0; code = 0; side = 0; first = 0; last = 0; quantity = kwh 0; status = 0 }

abbrev pub account_at : Setup → ℕ → Account
account_at u a = nth u.accounts a no_account

abbrev pub point_at : Setup → ℕ → Point
point_at u p = nth u.points p no_point

-- the margins of an account in a period: those of the hour that holds it
abbrev pub lower_at : Setup → ℕ → ℕ → Kwh
lower_at u a p = nth (account_at u a).lower (hour_of u p) (kwh 0)

abbrev pub upper_at : Setup → ℕ → ℕ → Kwh
upper_at u a p = nth (account_at u a).upper (hour_of u p) (kwh 0)

abbrev pub margins_at : Setup → ℕ → ℕ → Margins
margins_at u a p = record { lower = lower_at u a p; upper = upper_at u a p }

-- the estimated price of a period
abbrev pub estimate_at : Setup → ℕ → CentsPerMwh
estimate_at u p = nth u.estimates (hour_of u p) (cents_per_mwh 0)

abbrev pub maintenance_at : Setup → ℕ → ℕ
maintenance_at u o = nth u.maintenance o 0

abbrev pub guarantee_at : List Cents → ℕ → Cents
guarantee_at gs o = nth gs o (cents 0)

-- the ask that stands for an account, if any
abbrev pub ask_at : Book → ℕ → Option Row
ask_at b a = nth b.asks a None

-- no ask stands
abbrev pub no_asks : List (Option Row)
no_asks = replicate most_accounts None

-- how many there are
abbrev pub operator_count : Setup → ℕ
operator_count u = length u.maintenance

abbrev pub account_count : Setup → ℕ
account_count u = length u.accounts

abbrev pub point_count : Setup → ℕ
point_count u = length u.points

abbrev pub counts_of : Setup → Counts
counts_of u =
    record {
      hours = u.hours;
      operators = operator_count u;
      accounts = account_count u;
      points = point_count u;
      zones = u.zones;
    }

-- the operator of an account
abbrev pub operator_of : Setup → ℕ → ℕ
operator_of u a = (account_at u a).operator
