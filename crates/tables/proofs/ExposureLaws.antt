-- Exposure hour by hour and account by account, as the bytes of the set-up have estimates and accounts; what bounds it.
use Prim.Native.Nat.{ℕ, ◌+◌, ◌*◌, ◌≤◌}
use mathlib.Core.Path.{◌≡◌, refl, ◌∙◌}
use mathlib.Core.List.{List}
use mathlib.Core.Bool.{true, false}
use native.Mathlib.Nat.{mul_comm, mul-add}
use native.Mathlib.Omega.{arith}
use lib.Dec.{eqb}
use borrow.Author.Tests.{eq-eqb, ne_eqb}
use Rattle.units.specs.Units.{cents_per_mwh}
use Rattle.units.specs.declared.CentsPerMwh.{CentsPerMwh}
use Rattle.rules.specs.declared.Row.{Row}
use Rattle.rules.specs.declared.AccountHour.{AccountHour}
use Rattle.rules.specs.Basics.{total, nth, counting, Each}
use Rattle.rules.specs.Books.{Setup, operator_of}
use Rattle.rules.specs.Limits.{most_price}
use Rattle.rules.specs.Opening.{counts_in, setup_of, estimates_in}
use Rattle.rules.specs.Registration.{account_hour, exposed_amount, of_operator, exposure_of, exposure}
use Rattle.rules.proofs.Basics.Searches.{each_nth}
use Rattle.rules.proofs.Setups.SetupEntries.{length_accounts, length_estimates}
use Rattle.tables.specs.Sums.{account_exposure, exposure_share}

-- ---- an hour

-- two amounts at one price are their sum at that price
pub price_joined : (price x y : ℕ) → x * price + y * price ≡ price * (x + y)
price_joined price x y = omega (arith, mul-add price x y, mul_comm price x, mul_comm price y)

-- an estimate that the set-up has is in range where each is
pub estimate_small : (s : List ℕ) (h : ℕ) → Each (λ p. p.0 ≤ most_price) (estimates_in s) → 1 ≤ h → h ≤ (counts_in s).hours
    → (nth (estimates_in s) h (cents_per_mwh 0)).0 ≤ most_price
estimate_small s h e l u = each_nth (cents_per_mwh 0) h e l (rw (length_estimates s) u)

-- the exposure of an account hour at the estimate
unfoldable pub hour_exposure : List ℕ → List Row → ℕ → ℕ → ℕ
hour_exposure s rows a h = exposed_amount (nth (estimates_in s) h (cents_per_mwh 0)) (account_hour rows a h)

-- the same, of what was read
pub hour_exposure_read : (s : List ℕ) (rows : List Row) (a h : ℕ) (price : CentsPerMwh) (x : AccountHour) {r : ℕ}
    → price ≡ nth (estimates_in s) h (cents_per_mwh 0) → x ≡ account_hour rows a h → r ≡ exposed_amount price x → r ≡ hour_exposure s rows a h
unfolding hour_exposure
hour_exposure_read s rows a h price x e d f = f ∙ rw (e, d)

-- ---- an account

pub exposure_by_hour : (s : List ℕ) (rows : List Row) (a : ℕ) → account_exposure (setup_of s) rows a ≡ total (hour_exposure s rows a) (counting (counts_in s).hours 1)
unfolding account_exposure setup_of hour_exposure
exposure_by_hour s rows a = refl

-- an account is the operator's, or it is not
pub share_of_own : (u : Setup) (rows : List Row) (o a : ℕ) {own : ℕ} → own ≡ operator_of u a → own ≡ o
    → exposure_share u rows o a ≡ account_exposure u rows a
unfolding exposure_share
share_of_own u rows o a e d = let t : eqb (operator_of u a) o ≡ true = rw (← e) (eq-eqb _ o d) in rw (t, exposure_share)

pub share_of_others : (u : Setup) (rows : List Row) (o a : ℕ) {own : ℕ} → own ≡ operator_of u a → (own ≡ o → ⊥) → exposure_share u rows o a ≡ 0
unfolding exposure_share
share_of_others u rows o a e d = let t : eqb (operator_of u a) o ≡ false = rw (← e) (ne_eqb _ o d) in rw (t, exposure_share)

pub exposure_by_account : (s : List ℕ) (rows : List Row) (o : ℕ)
    → exposure (setup_of s) rows o ≡ total (exposure_share (setup_of s) rows o) (counting (counts_in s).accounts 1)
unfolding exposure_of of_operator setup_of exposure_share account_exposure
exposure_by_account s rows o = rw (length_accounts s)
