-- What Boolean tests say: each holds or fails, two that hold together are one, a conjunction holds by its parts, each taken out by a
-- name or its place, a bound is two orders.
use Prim.Native.Nat.{ℕ, zero, suc, ◌≤◌}
use mathlib.Core.Path.{◌≡◌, refl, sym, ◌∙◌}
use mathlib.Core.Logic.{◌↔◌, ◌⊎◌, inl, inr}
use mathlib.Core.List.{List, [], ◌∷◌}
use mathlib.Core.Bool.{Bool, true, false, ◌&&◌, ◌||◌, and-eq-true_iff, and_assoc, and-true}
use lib.ListN.{get_or}
use lib.Dec.{leb}
use borrow.Author.Tests.{leb-true, le-leb}
use Rattle.rules.specs.Basics.{all_of, within}

-- a test holds or fails
pub true_or_false : (t : Bool) → (t ≡ true) ⊎ (t ≡ false)
true_or_false true = inl refl
true_or_false false = inr refl

-- two tests of which each holds where the other does
pub test_same : (s t : Bool) → (s ≡ true → t ≡ true) → (t ≡ true → s ≡ true) → s ≡ t
test_same true t f g = sym (f refl)
test_same false true f g = g refl
test_same false false f g = refl

-- what a test that fails would follow from fails too
pub test_fails : (s t : Bool) → (s ≡ true → t ≡ true) → t ≡ false → s ≡ false
test_fails true t f e = sym (f refl) ∙ e
test_fails false t f e = refl

pub and_both : (s t : Bool) → (s && t ≡ true) ↔ ((s ≡ true) × (t ≡ true))
and_both = and-eq-true_iff

-- a conjunction fails and its first part holds
pub and_spared : (s t : Bool) → s ≡ true → s && t ≡ false → t ≡ false
and_spared true t e h = h
and_spared false t e h = cc

pub or_neither : (s t : Bool) → (s || t ≡ false) ↔ ((s ≡ false) × (t ≡ false))
or_neither true t = ((λ e. (e, cc)), (λ h. h.0))
or_neither false t = ((λ e. (refl, e)), (λ h. h.1))

-- low ≤ x ≤ high
pub within_true : (low x high : ℕ) → (within low x high ≡ true) ↔ ((low ≤ x) × (x ≤ high))
within_true low x high =
    let b = and_both (leb low x) (leb x high) in
    ((λ e. (leb-true low x (b.0 e).0, leb-true x high (b.0 e).1)), (λ h. b.1 (le-leb low x h.0, le-leb x high h.1)))

-- ---- a list of tests

-- each test of the list holds: `first and second and no_more`, to put them together and, as a pattern, to name them
infixr 5 ◌and◌
pub data Holds : List Bool → Type 0 where
  no_more : Holds []
  ◌and◌ : {t : Bool} {ts : List Bool} → t ≡ true → Holds ts → Holds (t ∷ ts)

pub all_holds : (ts : List Bool) → all_of ts ≡ true → Holds ts
unfolding all_of
all_holds [] h = no_more
all_holds (t ∷ ts) h = let w = (and_both t (all_of ts)).0 h in w.0 and all_holds ts w.1

pub holds_all : (ts : List Bool) → Holds ts → all_of ts ≡ true
unfolding all_of
holds_all [] no_more = refl
holds_all (t ∷ ts) (e and h) = (and_both t (all_of ts)).1 (e, holds_all ts h)

-- one test, by its place from 0
pub holds_at : (i : ℕ) (ts : List Bool) → all_of ts ≡ true → get_or ts i true ≡ true
unfolding all_of
holds_at i [] h = refl
holds_at zero (t ∷ ts) h = ((and_both t (all_of ts)).0 h).0
holds_at (suc i) (t ∷ ts) h = holds_at i ts ((and_both t (all_of ts)).0 h).1

-- tests joined from the left onto one that stands before them, as in `a && b && c`, and as code joins them
abbrev pub chained : Bool → List Bool → Bool
chained t [] = t
chained t (s ∷ ss) = chained (t && s) ss

-- so joined they are the conjunction of the list
pub chained_all : (t : Bool) (ss : List Bool) → chained t ss ≡ all_of (t ∷ ss)
unfolding all_of
chained_all t [] = sym (and-true t)
chained_all t (s ∷ ss) = chained_all (t && s) ss ∙ and_assoc t s (all_of ss)

pub chain_holds : (t : Bool) (ss : List Bool) → chained t ss ≡ true → Holds (t ∷ ss)
chain_holds t ss h = all_holds (t ∷ ss) (sym (chained_all t ss) ∙ h)

pub holds_chain : {t : Bool} {ss : List Bool} → Holds (t ∷ ss) → chained t ss ≡ true
holds_chain {t} {ss} h = chained_all t ss ∙ holds_all (t ∷ ss) h
