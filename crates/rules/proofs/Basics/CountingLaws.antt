-- A loop that counts up: a test of every number counted, and a sum over them, number by number.
use Prim.Native.Nat.{ℕ, zero, suc, ◌+◌, ◌≤◌, ◌<◌}
use mathlib.Core.Path.{◌≡◌, refl, sym, ◌∙◌}
use mathlib.Core.Bool.{Bool, true, false}
use native.Mathlib.Nat.{zero-add, add-zero}
use native.Mathlib.Numerals.{add-one}
use native.Mathlib.Omega.{arith}
use Rattle.rules.specs.Basics.{every, total, counting}

module _ (p : ℕ → Bool) where
  pub every_done : (n from : ℕ) → n ≤ 0 → every p (counting n from) ≡ true
  unfolding every counting
  every_done zero from h = refl
  every_done (suc n) from h = absurd (omega arith)

  pub every_same : (n m from : ℕ) → n ≡ m → every p (counting n from) ≡ every p (counting m from)
  every_same n m from e = rw e

  -- the first number passes
  pub every_next : (n m from : ℕ) → n ≡ m + 1 → p from ≡ true → every p (counting n from) ≡ every p (counting m (from + 1))
  unfolding every counting
  every_next n m from e t = rw (e, add-one m, t, add-one from)

  -- the first number fails
  pub every_fails : (n from : ℕ) → 0 < n → p from ≡ false → every p (counting n from) ≡ false
  unfolding every counting
  every_fails zero from h t = absurd (omega arith)
  every_fails (suc n) from h t = rw t

-- a sum, and the total of the numbers that are left
module _ (f : ℕ → ℕ) where
  pub sum_begins : (n m from : ℕ) → n ≡ m → 0 + total f (counting n from) ≡ total f (counting m from)
  sum_begins n m from e = rw e (zero-add _)

  -- the first number's share is added
  pub sum_next : (n m from sum more whole : ℕ) → n ≡ m + 1 → more ≡ sum + f from → sum + total f (counting n from) ≡ whole
      → more + total f (counting m (from + 1)) ≡ whole
  unfolding total counting
  sum_next n m from sum more whole e d h =
      let step : total f (counting n from) ≡ f from + total f (counting m (from + 1)) = rw (e, add-one m, add-one from) in omega arith

  pub sum_done : (n from sum whole : ℕ) → n ≤ 0 → sum + total f (counting n from) ≡ whole → sum ≡ whole
  unfolding total counting
  sum_done zero from sum whole h e = sym (add-zero sum) ∙ e
  sum_done (suc n) from sum whole h e = absurd (omega arith)
