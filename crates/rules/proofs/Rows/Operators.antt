-- Sums over an operator's accounts: of equal amounts, of sums, of nothing, and of what falls to one account.
use Rattle.std.specs.Prelude.{if◌then◌else◌}
use Prim.Native.Nat.{ℕ, ◌+◌, ◌≤◌}
use mathlib.Core.Path.{◌≡◌, refl, ap, ◌∙◌}
use mathlib.Core.Bool.{Bool, true, false, ◌&&◌}
use lib.Dec.{eqb}
use borrow.Author.Tests.{eqb-true}
use Rattle.rules.specs.Basics.{up_to}
use Rattle.rules.specs.Books.{Setup, account_count, operator_of}
use Rattle.rules.specs.Registration.{of_operator}
use Rattle.rules.proofs.Basics.Totals.{where_add, total_zero, total_add, total_cong, shared}

module _ (u : Setup) (o : ℕ) where
  -- the account is the operator's
  abbrev pub owned : ℕ → Bool
  owned a = eqb (operator_of u a) o

  -- equal for each account
  pub operator_cong : (f g : ℕ → ℕ) → ((a : ℕ) → f a ≡ g a) → of_operator u f o ≡ of_operator u g o
  unfolding of_operator
  operator_cong f g e = total_cong _ _ (up_to (account_count u)) (λ a. ap (λ (n : ℕ). if owned a then n else 0) (e a))

  pub operator_add : (f g : ℕ → ℕ) → of_operator u (λ a. f a + g a) o ≡ of_operator u f o + of_operator u g o
  unfolding of_operator
  operator_add f g =
      total_cong _ _ (up_to (account_count u)) (λ a. where_add (owned a) (f a) (g a)) ∙ total_add _ _ (up_to (account_count u))

  -- nothing, of whichever accounts
  nothing : (t : Bool) → ◌≡◌ {A = ℕ} (if t then 0 else 0) 0
  nothing true = refl
  nothing false = refl

  pub operator_none : of_operator u (λ a. 0) o ≡ 0
  unfolding of_operator
  operator_none = total_cong _ (λ a. 0) (up_to (account_count u)) (λ a. nothing (owned a)) ∙ total_zero (up_to (account_count u))

  -- at account a, of what falls to account x
  at_account : (x q a : ℕ) (e : Bool) → eqb x a ≡ e → (if owned a then (if e then q else 0) else 0) ≡ (if owned x && e then q else 0)
  at_account x q a true e = rw (eqb-true x a e) (go (owned a))
    where
      go : (w : Bool) → (if w then q else 0) ≡ (if w && true then q else 0)
      go true = refl
      go false = refl
  at_account x q a false e = go (owned a) (owned x)
    where
      go : (w v : Bool) → (if w then 0 else 0) ≡ (if v && false then q else 0)
      go true true = refl
      go true false = refl
      go false true = refl
      go false false = refl

  -- what falls to one account, where both tests hold, counts where that account is the operator's; that it is one of the set-up's is known
  -- where the first holds
  pub operator_one : (x q : ℕ) (s t : Bool) → (s ≡ true → (1 ≤ x) × (x ≤ account_count u))
      → of_operator u (λ a. if s && t && eqb x a then q else 0) o ≡ (if s && t && owned x then q else 0)
  unfolding of_operator
  operator_one x q false t known = operator_none
  operator_one x q true false known = operator_none
  operator_one x q true true known =
      total_cong _ _ (up_to (account_count u)) (λ a. at_account x q a (eqb x a) refl)
      ∙ shared (account_count u) x q (owned x) (known refl).0 (known refl).1
