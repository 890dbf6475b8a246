-- The map that a kind wants, read off the table; a number past the last kind wants none.
use Prim.Native.Nat.{ℕ, zero, suc, ◌+◌, ◌-◌, ◌≤◌, ◌<◌}
use mathlib.Core.Path.{◌≡◌, refl, ◌∙◌, sym, ap}
use mathlib.Core.Bool.{Bool, true, false}
use native.Mathlib.Omega.{arith}
use lib.ListN.{get_or, take, drop, replicate, get_or-replicate, get_or-eq_default}
use lib.Seq.{get_or-take, get_or-drop}
use lib.Dec.{leb}
use borrow.Author.Tests.{le-leb, leb-true, leb-false}
use Rattle.rules.specs.Requests.{maps, wanted_map, is_kind}

-- n kinds side by side that have the same map
pub wanted_run : (from n m k : ℕ) → take n (drop from maps) ≡ replicate n m → from ≤ k → k < from + n → wanted_map k ≡ m
wanted_run from n m k e l h =
    let j : ℕ = k - from in
    let f : k ≡ from + j = omega arith in
    ap (λ (i : ℕ). get_or maps i 0) f
    ∙ sym (get_or-drop from maps j 0)
    ∙ sym (get_or-take n (drop from maps) j 0 (omega arith))
    ∙ rw e (get_or-replicate n j m 0 (omega arith))

-- the kinds from 5 to 11 but 9 want no field but the kind itself
pub wanted_alone : (k : ℕ) → 5 ≤ k → (k ≡ 9 → ⊥) → k ≤ 11 → wanted_map k ≡ 1
wanted_alone k low other high = go (leb k 8) refl
  where
    go : (t : Bool) → leb k 8 ≡ t → wanted_map k ≡ 1
    go true e = wanted_run 5 4 1 k refl low (omega (arith, leb-true k 8 e))
    go false e = wanted_run 10 2 1 k refl (omega (arith, leb-false k 8 e, other)) (omega arith)

-- a number past the last kind wants no field
pub wanted_none : (k : ℕ) → 13 < k → wanted_map k ≡ 0
wanted_none k h = get_or-eq_default maps 0 h

-- a number that wants a field is a kind
pub wanted_kind : (k : ℕ) → 0 < wanted_map k → is_kind k ≡ true
wanted_kind zero h = absurd (omega arith)
wanted_kind (suc k) h = go (leb (suc k) 13) refl
  where
    go : (t : Bool) → leb (suc k) 13 ≡ t → is_kind (suc k) ≡ true
    go true e = rw (e, le-leb 1 (suc k) (omega arith))
    go false e = absurd (omega (arith, wanted_none (suc k) (leb-false (suc k) 13 e)))
