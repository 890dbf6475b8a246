-- Sums over lists: by recursion on the list, each step by arithmetic.
use Rattle.std.specs.Prelude.{if◌then◌else◌}
use Prim.Native.Nat.{ℕ, zero, suc, ◌+◌, ◌*◌, ◌≤◌, ◌<◌}
use mathlib.Core.Path.{◌≡◌, refl, sym, ap, ◌∙◌}
use mathlib.Core.Logic.{∥∥₁_elim}
use mathlib.Core.List.{List, [], ◌∷◌, ◌++◌, map, flat_map, Perm, Permᴰ}
use mathlib.Core.Bool.{Bool, true, false, ◌&&◌}
use native.Mathlib.Nat.{ℕ_set, zero-add, add-zero, add-mul, zero-mul}
use native.Mathlib.Omega.{arith}
use lib.ListN.{length, get_or, set}
use lib.Dec.{eqb}
use borrow.Author.Tests.{eqb-true, eqb-false, ne_eqb}
use Rattle.rules.specs.Basics.{total, those, counting, up_to, Each, nil, cons}

-- a sum counted where a test holds
pub where_add : (t : Bool) (m n : ℕ) → (if t then m + n else 0) ≡ (if t then m else 0) + (if t then n else 0)
where_add true m n = refl
where_add false m n = refl

-- ---- any list

module _ {ℓ} {A : Type ℓ} where
  pub total_zero : (xs : List A) → total (λ x. 0) xs ≡ 0
  unfolding total
  total_zero [] = refl
  total_zero (x ∷ xs) = let ih = total_zero xs in omega arith

  pub total_add : (f g : A → ℕ) (xs : List A) → total (λ x. f x + g x) xs ≡ total f xs + total g xs
  unfolding total
  total_add f g [] = refl
  total_add f g (x ∷ xs) = let ih = total_add f g xs in omega arith

  pub total_times : (f : A → ℕ) (k : ℕ) (xs : List A) → total (λ x. f x * k) xs ≡ total f xs * k
  unfolding total
  total_times f k [] = sym (zero-mul k)
  total_times f k (x ∷ xs) = ap (λ (n : ℕ). f x * k + n) (total_times f k xs) ∙ sym (add-mul (f x) (total f xs) k)

  -- equal at each element
  pub total_cong : (f g : A → ℕ) (xs : List A) → ((x : A) → f x ≡ g x) → total f xs ≡ total g xs
  unfolding total
  total_cong f g [] h = refl
  total_cong f g (x ∷ xs) h = let e = h x in let ih = total_cong f g xs h in omega arith

  -- equal at each element of the list, which has the property
  pub total_same {κ} : {P : A → Type κ} (f g : A → ℕ) {xs : List A} → ((x : A) → P x → f x ≡ g x) → Each P xs → total f xs ≡ total g xs
  unfolding total
  total_same f g h nil = refl
  total_same f g h (cons {x = x} p e) = let a = h x p in let ih = total_same f g h e in omega arith

  pub total_append : (f : A → ℕ) (xs ys : List A) → total f (xs ++ ys) ≡ total f xs + total f ys
  unfolding total
  total_append f [] ys = omega arith
  total_append f (x ∷ xs) ys = let ih = total_append f xs ys in omega arith

  -- one element more
  pub total_snoc : (f : A → ℕ) (xs : List A) (x : A) → total f (xs ++ x ∷ []) ≡ total f xs + f x
  unfolding total
  total_snoc f xs x = let e = total_append f xs (x ∷ []) in omega arith

  -- one element replaced: the old one's share goes, the new one's comes
  pub total_set : (f : A → ℕ) (d : A) (i : ℕ) (xs : List A) (x : A) → i < length xs
      → total f (set xs i x) + f (get_or xs i d) ≡ total f xs + f x
  unfolding total
  total_set f d i [] x h = absurd (omega arith)
  total_set f d zero (y ∷ ys) x h = omega arith
  total_set f d (suc i) (y ∷ ys) x h = let ih = total_set f d i ys x (omega arith) in omega arith

  pub total_map {κ} : {B : Type κ} (f : B → ℕ) (g : A → B) (xs : List A) → total f (map g xs) ≡ total (λ x. f (g x)) xs
  unfolding total
  total_map f g [] = refl
  total_map f g (x ∷ xs) = ap (λ (n : ℕ). f (g x) + n) (total_map f g xs)

  -- those that pass, or all with nothing for the others
  pub total_those : (p : A → Bool) (f : A → ℕ) (xs : List A) → total f (those p xs) ≡ total (λ x. if p x then f x else 0) xs
  unfolding total those
  total_those p f [] = refl
  total_those p f (x ∷ xs) = go (p x) (total_those p f xs)
    where
      go : (t : Bool) → total f (those p xs) ≡ total (λ y. if p y then f y else 0) xs
          → total f (elim t [ true ↦ x ∷ those p xs | false ↦ those p xs ]) ≡ (if t then f x else 0) + total (λ y. if p y then f y else 0) xs
      go true ih = ap (λ (n : ℕ). f x + n) ih
      go false ih = omega (arith, ih)

  -- a test that is the same for all of the list
  pub total_where : (t : Bool) (f : A → ℕ) (xs : List A) → total (λ x. if t then f x else 0) xs ≡ (if t then total f xs else 0)
  total_where true f xs = refl
  total_where false f xs = total_zero xs

  -- ---- rearranged

  steps : (f : A → ℕ) {xs ys : List A} → Permᴰ xs ys → total f xs ≡ total f ys
  unfolding total
  steps f Permᴰ.nil = refl
  steps f (Permᴰ.cons e d) = let g = ap f e in let ih = steps f d in omega arith
  steps f (Permᴰ.swap e d) = let g = ap f e in let h = ap f d in omega arith
  steps f (Permᴰ.trans d e) = steps f d ∙ steps f e

  -- a list in another order has the same sum, whatever is summed
  pub total_rearranged : (f : A → ℕ) {xs ys : List A} → Perm xs ys → total f xs ≡ total f ys
  total_rearranged f p = ∥∥₁_elim p (ℕ_set _ _) (steps f)

-- lists one behind the other: the sum of their sums
pub total_flat {ℓ κ} : {A : Type ℓ} {B : Type κ} (f : B → ℕ) (g : A → List B) (xs : List A)
    → total f (flat_map g xs) ≡ total (λ x. total f (g x)) xs
unfolding total flat_map
total_flat f g [] = refl
total_flat f g (x ∷ xs) = total_append f (g x) (flat_map g xs) ∙ ap (λ (n : ℕ). total f (g x) + n) (total_flat f g xs)

-- the order of two sums
pub swap {ℓ κ} : {A : Type ℓ} {B : Type κ} (f : A → B → ℕ) (xs : List A) (ys : List B)
    → total (λ a. total (f a) ys) xs ≡ total (λ b. total (λ a. f a b) xs) ys
unfolding total
swap f [] ys = sym (total_zero ys)
swap f (x ∷ xs) ys =
    ap (λ (n : ℕ). total (f x) ys + n) (swap f xs ys) ∙ sym (total_add (f x) (λ b. total (λ a. f a b) xs) ys)

-- ---- numbers counted

-- one number more
pub total_last : (f : ℕ → ℕ) (n from : ℕ) → total f (counting (suc n) from) ≡ total f (counting n from) + f (from + n)
unfolding total counting
total_last f zero from = omega (arith, ap f (add-zero from))
total_last f (suc n) from =
    let e : suc from + n ≡ from + suc n = omega arith in
    omega (arith, total_last f n (suc from), ap f e)

-- equal at each number counted
pub total_counting : (f g : ℕ → ℕ) (n from : ℕ) → ((a : ℕ) → from ≤ a → a < from + n → f a ≡ g a)
    → total f (counting n from) ≡ total g (counting n from)
unfolding total counting
total_counting f g zero from h = refl
total_counting f g (suc n) from h =
    let e = h from (omega arith) (omega arith) in
    let ih = total_counting f g n (suc from) (λ a l u. h a (omega arith) (omega arith)) in
    omega arith

-- equal at 1 to n
pub total_up_to : (f g : ℕ → ℕ) (n : ℕ) → ((a : ℕ) → 1 ≤ a → a ≤ n → f a ≡ g a) → total f (up_to n) ≡ total g (up_to n)
total_up_to f g n h = total_counting f g n 1 (λ a l u. h a l (omega arith))

-- x is none of the numbers counted
pub missed : (n from x q : ℕ) → x < from → total (λ a. if eqb x a then q else 0) (counting n from) ≡ 0
unfolding total counting
missed zero from x q h = refl
missed (suc n) from x q h = rw (ne_eqb x from (λ e. omega arith), missed n (suc from) x q (omega arith))

mass_go : (n from x q : ℕ) → from ≤ x → x < from + suc n → (t : Bool) → eqb x from ≡ t
    → (suc from ≤ x → x < suc from + n → total (λ a. if eqb x a then q else 0) (counting n (suc from)) ≡ q)
    → total (λ a. if eqb x a then q else 0) (counting (suc n) from) ≡ q
unfolding total counting
mass_go n from x q l h true e ih =
    let m = missed n (suc from) x q (omega (arith, eqb-true x from e)) in rw (e, m) (add-zero q)
mass_go n from x q l h false e ih = let d = eqb-false x from e in rw (e, ih (omega arith) (omega arith)) (zero-add q)

-- x is one of the numbers counted, and only once
pub mass : (n from x q : ℕ) → from ≤ x → x < from + n → total (λ a. if eqb x a then q else 0) (counting n from) ≡ q
mass zero from x q l h = absurd (omega arith)
mass (suc n) from x q l h = mass_go n from x q l h (eqb x from) refl (mass n (suc from) x q)

-- a share that falls to one of 1 to n where the test holds
pub shared : (n x q : ℕ) (t : Bool) → 1 ≤ x → x ≤ n → total (λ a. if t && eqb x a then q else 0) (up_to n) ≡ (if t then q else 0)
shared n x q true l h = mass n 1 x q l (omega arith)
shared n x q false l h = total_zero (up_to n)
