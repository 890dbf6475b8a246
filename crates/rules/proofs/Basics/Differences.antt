-- Differences of natural numbers: they are compared, added to and negated by their parts.
use Prim.Native.Nat.{ℕ, zero, suc, ◌+◌, ◌-◌, ◌≤◌, ◌<◌}
use mathlib.Core.Path.{◌≡◌, refl, sym, ap, ◌∙◌}
use mathlib.Core.Logic.{◌↔◌, ◌⊎◌, inl, inr, ⊎_elim}
use mathlib.Core.Bool.{Bool, true, false, cond}
use native.Mathlib.Nat.{eq-zero-or-pos}
use native.Mathlib.Omega.{arith}
use lib.Dec.{T, leb, ltb}
use lib.IntN.{ℤ, pos, negsuc, neg_ℤ, nat_abs, sub_ℕ, ◌+ℤ◌, ◌-ℤ◌, +ℤ_idr}
use lib.Signed.{le_z, ◌≤ℤ◌, le_z_yes}
use borrow.Author.Tests.{ltb-true, ltb-false, leb-true, le-leb, lt-leb, lt-ltb, le-ltb}
use Rattle.rules.proofs.Basics.Tests.{test_same}

-- of two numbers, the first is below the second or it is not
pub lt_or_ge : (a b : ℕ) → (a < b) ⊎ (b ≤ a)
lt_or_ge a b = ⊎_elim (λ (z : b - a ≡ 0). inr (omega arith)) (λ (z : 0 < b - a). inl (omega arith)) (eq-zero-or-pos (b - a))

same_go : (a b c d : ℕ) (s t : Bool) → ltb a b ≡ s → ltb c d ≡ t → a + d ≡ c + b
    → cond s (negsuc (b - suc a)) (pos (a - b)) ≡ cond t (negsuc (d - suc c)) (pos (c - d))
same_go a b c d true true p q e = let l = ltb-true a b p in let m = ltb-true c d q in ap negsuc (omega arith)
same_go a b c d true false p q e = let l = ltb-true a b p in let m = ltb-false c d q in absurd (omega arith)
same_go a b c d false true p q e = let l = ltb-false a b p in let m = ltb-true c d q in absurd (omega arith)
same_go a b c d false false p q e = let l = ltb-false a b p in let m = ltb-false c d q in ap pos (omega arith)

-- a - b is c - d
pub difference_same : (a b c d : ℕ) → a + d ≡ c + b → sub_ℕ a b ≡ sub_ℕ c d
difference_same a b c d e = same_go a b c d (ltb a b) (ltb c d) refl refl e

leb-same : (m n k l : ℕ) → (m ≤ n → k ≤ l) → (k ≤ l → m ≤ n) → leb m n ≡ leb k l
leb-same m n k l f g =
    test_same (leb m n) (leb k l) (λ e. le-leb k l (f (leb-true m n e))) (λ e. le-leb m n (g (leb-true k l e)))

order_go : (a b c d : ℕ) (s t : Bool) → ltb a b ≡ s → ltb c d ≡ t
    → le_z (cond s (negsuc (b - suc a)) (pos (a - b))) (cond t (negsuc (d - suc c)) (pos (c - d))) ≡ leb (a + d) (c + b)
order_go a b c d true true p q =
    let l = ltb-true a b p in
    let m = ltb-true c d q in
    leb-same (d - suc c) (b - suc a) (a + d) (c + b) (λ h. omega arith) (λ h. omega arith)
order_go a b c d true false p q = let l = ltb-true a b p in let m = ltb-false c d q in sym (le-leb (a + d) (c + b) (omega arith))
order_go a b c d false true p q = let l = ltb-false a b p in let m = ltb-true c d q in sym (lt-leb (a + d) (c + b) (omega arith))
order_go a b c d false false p q =
    let l = ltb-false a b p in
    let m = ltb-false c d q in
    leb-same (a - b) (c - d) (a + d) (c + b) (λ h. omega arith) (λ h. omega arith)

-- a - b ≤ c - d
pub difference_order : (a b c d : ℕ) → le_z (sub_ℕ a b) (sub_ℕ c d) ≡ leb (a + d) (c + b)
difference_order a b c d = order_go a b c d (ltb a b) (ltb c d) refl refl

-- the order, by a test
pub order_by : (y z : ℤ) (t : Bool) → le_z y z ≡ t → (t ≡ true) ↔ (y ≤ℤ z)
order_by y z t e = ((λ h. le_z_yes (holds (le_z y z) (e ∙ h))), (λ h. sym e ∙ true_of (le_z y z) h.le))
  where
    holds : (s : Bool) → s ≡ true → T s
    holds true h = tt
    holds false h = let z : ◌≡◌ {A = ℕ} 0 1 = cc in absurd (omega arith)

    true_of : (s : Bool) → T s → s ≡ true
    true_of true h = refl
    true_of false h = absurd h

-- n - 0 and 0 - n
pub difference_pos : (n : ℕ) → pos n ≡ sub_ℕ n 0
difference_pos n = sym (rw (le-ltb n 0 (omega arith)) (ap pos (omega arith)))

pub difference_neg : (n : ℕ) → neg_ℤ (pos n) ≡ sub_ℕ 0 n
difference_neg zero = refl
difference_neg (suc n) = sym (rw (lt-ltb 0 (suc n) (omega arith)) (ap negsuc (omega arith)))

more_go : (a b n : ℕ) (s : Bool) → ltb a b ≡ s → cond s (negsuc (b - suc a)) (pos (a - b)) +ℤ pos n ≡ sub_ℕ (a + n) b
more_go a b n true e = let l = ltb-true a b e in difference_same n (suc (b - suc a)) (a + n) b (omega arith)
more_go a b n false e =
    let l = ltb-false a b e in difference_pos (a - b + n) ∙ difference_same (a - b + n) 0 (a + n) b (omega arith)

-- (a - b) + n
pub difference_more : (a b n : ℕ) → sub_ℕ a b +ℤ pos n ≡ sub_ℕ (a + n) b
difference_more a b n = more_go a b n (ltb a b) refl

less_go : (a b n : ℕ) (s : Bool) → ltb a b ≡ s → cond s (negsuc (b - suc a)) (pos (a - b)) +ℤ negsuc n ≡ sub_ℕ a (b + suc n)
less_go a b n true e =
    let l = ltb-true a b e in
    let k : ℕ = suc (suc (b - suc a + n)) in
    difference_neg k ∙ difference_same 0 k a (b + suc n) (omega arith)
less_go a b n false e = let l = ltb-false a b e in difference_same (a - b) (suc n) a (b + suc n) (omega arith)

-- (a - b) - n
pub difference_less : (a b n : ℕ) → sub_ℕ a b -ℤ pos n ≡ sub_ℕ a (b + n)
difference_less a b zero = +ℤ_idr (sub_ℕ a b) ∙ difference_same a b a (b + 0) (omega arith)
difference_less a b (suc n) = less_go a b n (ltb a b) refl

add_go : (a b c d : ℕ) (t : Bool) → ltb c d ≡ t
    → sub_ℕ a b +ℤ cond t (negsuc (d - suc c)) (pos (c - d)) ≡ sub_ℕ (a + c) (b + d)
add_go a b c d true e =
    let l = ltb-true c d e in
    less_go a b (d - suc c) (ltb a b) refl ∙ difference_same a (b + suc (d - suc c)) (a + c) (b + d) (omega arith)
add_go a b c d false e =
    let l = ltb-false c d e in
    difference_more a b (c - d) ∙ difference_same (a + (c - d)) b (a + c) (b + d) (omega arith)

-- (a - b) + (c - d)
pub difference_add : (a b c d : ℕ) → sub_ℕ a b +ℤ sub_ℕ c d ≡ sub_ℕ (a + c) (b + d)
difference_add a b c d = add_go a b c d (ltb c d) refl

-- n - n
pub difference_none : (n : ℕ) → sub_ℕ n n ≡ pos 0
difference_none n = difference_same n n 0 0 (omega arith)

negated_go : (a b : ℕ) (s t : Bool) → ltb a b ≡ s → ltb b a ≡ t
    → neg_ℤ (cond s (negsuc (b - suc a)) (pos (a - b))) ≡ cond t (negsuc (a - suc b)) (pos (b - a))
negated_go a b true true p q = let l = ltb-true a b p in let m = ltb-true b a q in absurd (omega arith)
negated_go a b true false p q = let l = ltb-true a b p in ap pos (omega arith)
negated_go a b false true p q =
    let m = ltb-true b a q in let e : a - b ≡ suc (a - suc b) = omega arith in ap (λ (n : ℕ). neg_ℤ (pos n)) e
negated_go a b false false p q =
    let l = ltb-false a b p in
    let m = ltb-false b a q in
    let e : a - b ≡ 0 = omega arith in
    ap (λ (n : ℕ). neg_ℤ (pos n)) e ∙ ap pos (omega arith)

-- minus (a - b)
pub difference_negated : (a b : ℕ) → neg_ℤ (sub_ℕ a b) ≡ sub_ℕ b a
difference_negated a b = negated_go a b (ltb a b) (ltb b a) refl refl

most_go : (a b most : ℕ) (s : Bool) → ltb a b ≡ s → a ≤ most → b ≤ most → nat_abs (cond s (negsuc (b - suc a)) (pos (a - b))) ≤ most
most_go a b most true e h k = let l = ltb-true a b e in omega arith
most_go a b most false e h k = omega arith

-- a - b goes no further from zero than the greater of the two
pub difference_most : (a b most : ℕ) → a ≤ most → b ≤ most → nat_abs (sub_ℕ a b) ≤ most
difference_most a b most h k = most_go a b most (ltb a b) refl h k

-- ---- signed numbers cut off at zero

-- the number, or 0 where it lies below zero
abbrev pub or_zero : ℤ → ℕ
or_zero (pos n) = n
or_zero (negsuc n) = 0

-- how far a number lies below zero
abbrev pub shortfall : ℤ → ℕ
shortfall z = or_zero (neg_ℤ z)

or_zero_go : (a b : ℕ) (s : Bool) → ltb a b ≡ s → or_zero (cond s (negsuc (b - suc a)) (pos (a - b))) ≡ a - b
or_zero_go a b true e = let l = ltb-true a b e in omega arith
or_zero_go a b false e = refl

-- a - b, or 0
pub difference_or_zero : (a b : ℕ) → or_zero (sub_ℕ a b) ≡ a - b
difference_or_zero a b = or_zero_go a b (ltb a b) refl
