-- What a row of values comes to (document 01, "Verdicts", 9), value by value; bytes that hold the entries that their counts say.
use Rattle.rules.specs.Verdicts.{Checked}
use Rattle.std.specs.Prelude.{ℕ, ◌+◌, ◌≤◌, ◌^◌, ◌≡◌, Bool, List, [], ◌∷◌, length, drop, eqb, leb, if◌then◌else◌, Err, Ok}
use Rattle.units.specs.Units.{cents}
use Rattle.rules.specs.declared.Counts.{Counts}
use Rattle.rules.specs.declared.Operator.{Operator}
use Rattle.rules.specs.declared.Point.{Point}
use Rattle.rules.specs.declared.Refusal.TheVariants.{SetupValue}
use Rattle.rules.specs.Basics.{every, entries}
use Rattle.rules.specs.Limits.{most_energy}
use Rattle.rules.specs.Opening.{Value, values_of, estimate_values, operator_values, margin_values, account_values, point_values, margin_in, counts_in, setup_length, estimates_offset, operators_offset, accounts_offset, points_offset, estimates_in, operators_in, accounts_in, points_in, price_width, operator_entry, margin_width, account_entry, point_entry}
use Rattle.rules.specs.Books.{injection_kind, withdrawal_kind}

-- ---- faults

-- the first of two that fails
unfoldable pub or_else : Checked → Checked → Checked
or_else (Ok tt) b = b
or_else (Err r) b = Err r

-- what was found so far, or the offset of a value that is out of range
unfoldable pub or_fault : Checked → Value → Checked
or_fault (Ok tt) v = if v.1 then (Ok tt) else Err (SetupValue v.0)
or_fault (Err r) v = Err r

-- what was found so far, or the first value that is out of range
unfoldable pub first_fault_from : Checked → List Value → Checked
first_fault_from found [] = found
first_fault_from found (v ∷ vs) = first_fault_from (or_fault found v) vs

-- the first value that is out of range
abbrev pub first_fault : List Value → Checked
first_fault vs = first_fault_from (Ok tt) vs

-- the first fault among the estimates of set-up bytes
unfoldable pub estimate_faults : List ℕ → Checked
estimate_faults s = first_fault (values_of price_width estimate_values estimates_offset (estimates_in s))

-- among the operators
unfoldable pub operator_faults : List ℕ → Checked
operator_faults s = first_fault (values_of operator_entry operator_values (operators_offset (counts_in s)) (operators_in s))

-- among the accounts
unfoldable pub account_faults : List ℕ → Checked
account_faults s =
    first_fault (values_of (account_entry (counts_in s)) (account_values (counts_in s)) (accounts_offset (counts_in s)) (accounts_in s))

-- the values of so many margins side by side
abbrev pub margins_from : List ℕ → ℕ → ℕ → List Value
margins_from s from count = values_of margin_width margin_values from (entries margin_width margin_in count (drop from s))

-- all of them are in range
unfoldable pub margins_fine : List ℕ → ℕ → ℕ → Bool
margins_fine s from count = every (λ v. v.1) (margins_from s from count)

-- the first fault among them
unfoldable pub margin_faults : List ℕ → ℕ → ℕ → Checked
margin_faults s from count = first_fault (margins_from s from count)

-- among the points
unfoldable pub point_faults : List ℕ → Checked
point_faults s = first_fault (values_of point_entry (point_values (accounts_in s) (counts_in s).zones) (points_offset (counts_in s)) (points_in s))

-- a point's greatest amount in a direction that its kind has, or has not
abbrev pub most_amount : Bool → ℕ
most_amount barred = if barred then 0 else most_energy

-- the last two values of a point
abbrev pub amount_values : ℕ → Point → List Value
amount_values at x =
    (at + 3, leb x.injection.0 (most_amount (eqb x.kind withdrawal_kind)))
    ∷ (at + 7, leb x.withdrawal.0 (most_amount (eqb x.kind injection_kind)))
    ∷ []

-- ---- bytes that are long enough

-- the bytes hold every entry that their counts say
abbrev pub Whole : List ℕ → Type 0
Whole s = setup_length (counts_in s) ≤ length s

-- the same, with the counts that were read; each offset fits a detail
pub record Shaped (n : Counts) (s : List ℕ) : Type 0 where
  pub counted : n ≡ counts_in s
  pub whole : setup_length n ≤ length s
  pub short : length s ≤ 2 ^ 16

-- for a number that no operator has
abbrev pub no_operator : Operator
no_operator = record { guarantee = cents 0; maintenance = 0 }
