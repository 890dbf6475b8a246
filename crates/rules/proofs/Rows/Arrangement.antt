-- An operator's exposure is the sum of the amounts of its account hours, in whatever order or groups they are added; so it is the sum of
-- its hourly exposures, in any order of the hours (document 02, note 5).
use Rattle.std.specs.Prelude.{if◌then◌else◌}
use Prim.Native.Nat.{ℕ, ◌*◌, ◌≤◌}
use mathlib.Core.Path.{◌≡◌, sym, ◌∙◌}
use mathlib.Core.List.{List, map, flat_map, Perm}
use mathlib.Core.Bool.{Bool, true, false, ◌&&◌}
use native.Mathlib.Nat.{zero-mul, mul_comm}
use lib.Dec.{eqb}
use Rattle.units.specs.declared.CentsPerMwh.{CentsPerMwh}
use Rattle.rules.specs.declared.AccountHour.{AccountHour}
use Rattle.rules.specs.Basics.{total, up_to}
use Rattle.rules.specs.Books.{Setup, periods, account_count}
use Rattle.rules.specs.Registration.{exposed, exposed_amount, of_operator, exposure_of, hourly_exposure_of, accounts_of, account_hours_of}
use Rattle.rules.proofs.Basics.Totals.{total_times, total_cong, total_map, total_those, total_where, total_rearranged, total_flat, swap, shared}
use Rattle.rules.proofs.Rows.Operators.{owned, operator_cong, operator_one}

-- ---- an operator's account hours

module _ (u : Setup) (o : ℕ) where
  abbrev hours : List ℕ
  hours = up_to (periods u)

  module _ (f : ℕ × ℕ → ℕ) where
    -- a sum over them, hour by hour
    by_hour : total f (account_hours_of u o) ≡ total (λ h. total (λ a. f (a, h)) (accounts_of u o)) hours
    unfolding account_hours_of
    by_hour =
        total_flat f (λ h. map (λ a. (a, h)) (accounts_of u o)) hours
        ∙ total_cong _ _ hours (λ h. total_map f (λ a. (a, h)) (accounts_of u o))

    -- and account by account
    by_account : total f (account_hours_of u o) ≡ of_operator u (λ a. total (λ h. f (a, h)) hours) o
    unfolding of_operator accounts_of
    by_account =
        by_hour
        ∙ total_cong _ _ hours (λ h. total_those (owned u o) (λ a. f (a, h)) (up_to (account_count u)))
        ∙ swap (λ h a. if owned u o a then f (a, h) else 0) hours (up_to (account_count u))
        ∙ total_cong _ _ (up_to (account_count u)) (λ a. total_where (owned u o a) (λ h. f (a, h)) hours)

  -- an hour of an account, both of the set-up, is among them once where the account is the operator's, and else not
  pub each_once : (a h : ℕ) → 1 ≤ a → a ≤ account_count u → 1 ≤ h → h ≤ periods u
      → total (λ x. if eqb a x.0 && eqb h x.1 then 1 else 0) (account_hours_of u o) ≡ (if owned u o a then 1 else 0)
  each_once a h al ah hl hh =
      by_account (λ x. if eqb a x.0 && eqb h x.1 then 1 else 0)
      ∙ operator_cong u o _ _ (λ b. shared (periods u) h 1 (eqb a b) hl hh)
      ∙ operator_one u o a 1 true true (λ e. (al, ah))

-- ---- their amounts

-- a factor of what counts where a test holds
times_where : (t : Bool) (k n : ℕ) → (if t then k * n else 0) ≡ (if t then n else 0) * k
times_where true k n = mul_comm k n
times_where false k n = sym (zero-mul k)

module _ (u : Setup) (prices : ℕ → CentsPerMwh) (holds : ℕ → ℕ → AccountHour) (o : ℕ) where
  -- the amount of an account hour
  abbrev pub amount_of : ℕ × ℕ → ℕ
  amount_of x = exposed_amount (prices x.1) (holds x.0 x.1)

  -- the amounts of an hour, of the operator's accounts
  pub hour_amounts : (h : ℕ) → hourly_exposure_of u prices holds o h ≡ total (λ a. amount_of (a, h)) (accounts_of u o)
  unfolding hourly_exposure_of of_operator accounts_of
  hour_amounts h =
      let p = (prices h).0 in
      let here : ℕ → ℕ = λ a. if owned u o a then exposed (holds a h) else 0 in
      mul_comm p (total here (up_to (account_count u)))
      ∙ sym (total_times here p (up_to (account_count u)))
      ∙ sym (total_cong _ _ (up_to (account_count u)) (λ a. times_where (owned u o a) p (exposed (holds a h))))
      ∙ sym (total_those (owned u o) (λ a. amount_of (a, h)) (up_to (account_count u)))

  -- all amounts
  all_amounts : total amount_of (account_hours_of u o) ≡ exposure_of u prices holds o
  unfolding exposure_of
  all_amounts = by_account u o amount_of

  -- in any order of the operator's account hours
  pub any_arrangement : (arranged : List (ℕ × ℕ)) → Perm (account_hours_of u o) arranged → total amount_of arranged ≡ exposure_of u prices holds o
  any_arrangement arranged p = sym (total_rearranged amount_of p) ∙ all_amounts

  -- in any groups, each with a sum of its own
  pub any_groups : (groups : List (List (ℕ × ℕ))) → Perm (account_hours_of u o) (flat_map (λ group. group) groups)
      → total (total amount_of) groups ≡ exposure_of u prices holds o
  any_groups groups p = sym (total_flat amount_of (λ group. group) groups) ∙ any_arrangement (flat_map (λ group. group) groups) p

  -- the hourly exposures of all hours
  pub hours_total : total (hourly_exposure_of u prices holds o) (up_to (periods u)) ≡ exposure_of u prices holds o
  hours_total = total_cong _ _ (up_to (periods u)) hour_amounts ∙ sym (by_hour u o amount_of) ∙ all_amounts

  -- and in any order of the hours
  pub hours_in_any_order : (arranged : List ℕ) → Perm (up_to (periods u)) arranged
      → total (hourly_exposure_of u prices holds o) arranged ≡ exposure_of u prices holds o
  hours_in_any_order arranged p = sym (total_rearranged (hourly_exposure_of u prices holds o) p) ∙ hours_total
