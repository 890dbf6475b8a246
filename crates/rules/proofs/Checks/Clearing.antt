-- Checks of which none applies: acceptance is that, and then each test of the list is false. Of two rows of checks, the second decides
-- where the first finds nothing.
use Rattle.std.specs.Prelude.{Err, Ok, Option, None, Some}
use Prim.Native.Nat.{ℕ, zero, suc}
use mathlib.Core.Path.{◌≡◌, refl, ap}
use mathlib.Core.List.{List, [], ◌∷◌, ◌++◌, map}
use mathlib.Core.Bool.{Bool, true, false, ◌&&◌}
use native.Mathlib.Omega.{arith}
use lib.ListN.{get_or}
use Rattle.rules.specs.declared.Refusal.{Refusal}
use Rattle.rules.specs.declared.Refusal.TheVariants.{NotABook}
use Rattle.rules.specs.Basics.{Each, nil, cons}
use Rattle.rules.specs.Verdicts.{Check, ◌⇒◌, ◌⇒↑◌, applies, first_to_apply, checked, accepted, refused, outcome_of, Verdict}
use Rattle.rules.specs.Calls.{when}

-- no outcome is both refused and accepted
pub never_both : (r : Refusal) (n : ℕ) → refused r ≡ accepted n → ⊥
never_both r n h =
    let v : Err r ≡ Ok n = ap (λ (o : Verdict). o) h in
    let z : ◌≡◌ {A = ℕ} 0 1 = cc in
    omega arith

-- what is accepted is refused for nothing
pub accepted_none : (o : Option Refusal) (n : ℕ) → outcome_of o n ≡ accepted n → o ≡ None
accepted_none None n h = refl
accepted_none (Some r) n h = absurd (never_both r n h)

-- what a row of checks comes to tells what it refuses
pub checked-same : (o p : Option Refusal) → checked o ≡ checked p → o ≡ p
checked-same None None h = refl
checked-same None (Some q) h = cc
checked-same (Some r) None h = cc
checked-same (Some r) (Some q) h = cc

-- no check of the list applies
abbrev pub Clear : List Check → Type 0
Clear [] = Unit {0}
Clear (c ∷ cs) = (applies c ≡ None) × Clear cs

clear_go : (c : Check) (cs : List Check) (o : Option Refusal) → applies c ≡ o → first_to_apply (c ∷ cs) ≡ None
    → (applies c ≡ None) × (first_to_apply cs ≡ None)
unfolding first_to_apply
clear_go c cs (Some r) e h = let z : Some r ≡ None = rw (e, first_to_apply) at h in (cc, cc)
clear_go c cs None e h = (e, rw (e, first_to_apply) at h)

-- nothing applies exactly where the lowest is none
pub clear : (cs : List Check) → first_to_apply cs ≡ None → Clear cs
clear [] h = tt
clear (c ∷ cs) h = let w = clear_go c cs (applies c) refl h in (w.0, clear cs w.1)

pub clear_applies : (cs : List Check) → Clear cs → first_to_apply cs ≡ None
unfolding first_to_apply
clear_applies [] h = refl
clear_applies (c ∷ cs) h = rw (h.0, first_to_apply) (clear_applies cs h.1)

-- of two rows of checks
pub clear_split : (cs ds : List Check) → Clear (cs ++ ds) → Clear cs × Clear ds
clear_split [] ds h = (tt, h)
clear_split (c ∷ cs) ds h = let w = clear_split cs ds h.1 in ((h.0, w.0), w.1)

pub clear_join : (cs ds : List Check) → Clear cs → Clear ds → Clear (cs ++ ds)
clear_join [] ds h k = k
clear_join (c ∷ cs) ds h k = (h.0, clear_join cs ds h.1 k)

first_go : (c : Check) (cs ds : List Check) (r : Refusal) (o : Option Refusal) → applies c ≡ o → first_to_apply (c ∷ cs) ≡ Some r
    → (first_to_apply cs ≡ Some r → first_to_apply (cs ++ ds) ≡ Some r) → first_to_apply (c ∷ cs ++ ds) ≡ Some r
unfolding first_to_apply
first_go c cs ds r (Some y) f e rest = rw (f, first_to_apply) (rw (f, first_to_apply) at e)
first_go c cs ds r None f e rest = rw (f, first_to_apply) (rest (rw (f, first_to_apply) at e))

-- of two rows of checks, what the first finds is found
pub applies_first : (cs ds : List Check) (r : Refusal) → first_to_apply cs ≡ Some r → first_to_apply (cs ++ ds) ≡ Some r
unfolding first_to_apply
applies_first [] ds r e = cc
applies_first (c ∷ cs) ds r e = first_go c cs ds r (applies c) refl e (applies_first cs ds r)

later_go : (c : Check) (cs ds : List Check) (o : Option Refusal) → applies c ≡ o → first_to_apply (c ∷ cs) ≡ None
    → (first_to_apply cs ≡ None → first_to_apply (cs ++ ds) ≡ first_to_apply ds) → first_to_apply (c ∷ cs ++ ds) ≡ first_to_apply ds
unfolding first_to_apply
later_go c cs ds (Some y) f e rest = let z : Some y ≡ None = rw (f, first_to_apply) at e in cc
later_go c cs ds None f e rest = rw (f, first_to_apply) (rest (rw (f, first_to_apply) at e))

-- where it finds nothing, the second decides
pub applies_later : (cs ds : List Check) → first_to_apply cs ≡ None → first_to_apply (cs ++ ds) ≡ first_to_apply ds
unfolding first_to_apply
applies_later [] ds e = refl
applies_later (c ∷ cs) ds e = later_go c cs ds (applies c) refl e (applies_later cs ds)

-- of a check on each element: it applies to none of them
pub clear_each : {A : Type 0} (f : A → Check) (xs : List A) → Clear (map f xs) → Each (λ x. applies (f x) ≡ None) xs
clear_each f [] h = nil
clear_each f (x ∷ xs) h = cons h.0 (clear_each f xs h.1)

pub each_clear : {A : Type 0} (f : A → Check) {xs : List A} → Each (λ x. applies (f x) ≡ None) xs → Clear (map f xs)
each_clear f nil = tt
each_clear f (cons p e) = (p, each_clear f e)

-- of one check, by its place from 0
pub clear_at : (i : ℕ) (cs : List Check) → Clear cs → applies (get_or cs i (false ⇒ NotABook)) ≡ None
clear_at i [] h = refl
clear_at zero (c ∷ cs) h = h.0
clear_at (suc i) (c ∷ cs) h = clear_at i cs h.1

-- a check that does not apply: its test is false, its search finds nothing
pub spared : (t : Bool) (r : Refusal) → applies (t ⇒ r) ≡ None → t ≡ false
spared true r h = cc
spared false r h = refl

pub spared↑ : (o : Option ℕ) (r : ℕ → Refusal) → applies (o ⇒↑ r) ≡ None → o ≡ None
spared↑ None r h = refl
spared↑ (Some n) r h = cc

-- the same of a check for some kinds only, at one of them
pub spared_for : (s t : Bool) (r : Refusal) → s ≡ true → applies (s && t ⇒ r) ≡ None → t ≡ false
spared_for true t r e h = spared t r h
spared_for false t r e h = cc

pub spared↑_for : (s : Bool) (o : Option ℕ) (r : ℕ → Refusal) → s ≡ true → applies (when s o ⇒↑ r) ≡ None → o ≡ None
spared↑_for true o r e h = spared↑ o r h
spared↑_for false o r e h = cc
