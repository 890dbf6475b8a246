-- What a search over a list says of its elements, by recursion on the list and cases on the test of its first element.
use Rattle.std.specs.Prelude.{Option, None, Some}
use Prim.Native.Nat.{ℕ, zero, suc, ◌+◌, ◌-◌, ◌≤◌, ◌<◌}
use mathlib.Core.Path.{◌≡◌, refl, sym, ap, ◌∙◌}
use mathlib.Core.Logic.{◌⊎◌, inl, inr, ⊎_elim}
use mathlib.Core.List.{List, [], ◌∷◌, ◌++◌, map}
use mathlib.Core.Bool.{Bool, true, false, ◌||◌}
use native.Mathlib.Omega.{arith}
use lib.ListN.{length, get_or}
use Rattle.rules.proofs.Basics.Tests.{and_both}
use Rattle.rules.specs.Basics.{any_passes, every, find, index_of, is_some, nth, put, counting, Each, nil, cons}

-- an option that holds something
pub some_of : {A : Type 0} (o : Option A) → is_some o ≡ true → (x : A) × (o ≡ Some x)
some_of None e = let z : ◌≡◌ {A = ℕ} 0 1 = cc in absurd (omega arith)
some_of (Some x) e = (x, refl)

pub none_of : {A : Type 0} (o : Option A) → is_some o ≡ false → o ≡ None
none_of None e = refl
none_of (Some x) e = let z : ◌≡◌ {A = ℕ} 0 1 = cc in absurd (omega arith)

-- the numbers counted, by index
pub counting_at : (n from d i : ℕ) → i < n → get_or (counting n from) i d ≡ from + i
unfolding counting
counting_at zero from d i h = absurd (omega arith)
counting_at (suc n) from d zero h = omega arith
counting_at (suc n) from d (suc i) h = counting_at n (suc from) d i (omega arith) ∙ omega arith

pub counting-length : (n from : ℕ) → length (counting n from) ≡ n
unfolding counting
counting-length zero from = refl
counting-length (suc n) from = ap suc (counting-length n (suc from))

-- what each element has, the first has, and each of the others
pub first_and_rest {ℓ κ} : {A : Type ℓ} {P : A → Type κ} {x : A} {xs : List A} → Each P (x ∷ xs) → P x × Each P xs
first_and_rest (cons p e) = (p, e)

-- what each element has, the element at an index has
pub each_at {ℓ κ} : {A : Type ℓ} {P : A → Type κ} {xs : List A} (d : A) (i : ℕ) → Each P xs → i < length xs → P (get_or xs i d)
each_at d i nil h = absurd (omega arith)
each_at d zero (cons p e) h = p
each_at d (suc i) (cons p e) h = each_at d i e (omega arith)

-- and what the element at each index has, each element has
pub at_each {ℓ κ} : {A : Type ℓ} {P : A → Type κ} (d : A) (xs : List A) → ((i : ℕ) → i < length xs → P (get_or xs i d)) → Each P xs
at_each d [] f = nil
at_each d (x ∷ xs) f = cons (f 0 (omega arith)) (at_each d xs (λ i h. f (suc i) (omega arith)))

-- the same counted from 1
pub each_nth {ℓ κ} : {A : Type ℓ} {P : A → Type κ} {xs : List A} (d : A) (n : ℕ) → Each P xs → 1 ≤ n → n ≤ length xs → P (nth xs n d)
each_nth d zero e l h = absurd (omega arith)
each_nth d (suc i) e l h = each_at d i e (omega arith)

-- the same of any number, where the default has it too
pub each_nth_or {ℓ κ} : {A : Type ℓ} {P : A → Type κ} {xs : List A} (d : A) (n : ℕ) → P d → Each P xs → P (nth xs n d)
each_nth_or d zero p e = p
each_nth_or d (suc i) p nil = p
each_nth_or d (suc zero) p (cons q e) = q
each_nth_or d (suc (suc i)) p (cons q e) = each_nth_or d (suc i) p e

-- a place holds what was put there, where it is the place and there is one; else it holds what it held
pub put_place : {A : Type 0} (xs : List A) (p a : ℕ) (x d : A)
    → ((p ≡ a) × (nth (put xs p x) a d ≡ x)) ⊎ ((nth (put xs p x) a d ≡ nth xs a d) × (p ≡ a → nth xs a d ≡ d))
put_place xs zero zero x d = inr (refl, λ e. refl)
put_place xs zero (suc i) x d = inr (refl, λ e. absurd (omega arith))
put_place xs (suc j) zero x d = inr (refl, λ e. refl)
put_place [] (suc j) (suc i) x d = inr (refl, λ e. refl)
put_place (y ∷ xs) (suc zero) (suc zero) x d = inl (refl, refl)
put_place (y ∷ xs) (suc zero) (suc (suc i)) x d = inr (refl, λ e. absurd (omega arith))
put_place (y ∷ xs) (suc (suc j)) (suc zero) x d = inr (refl, λ e. absurd (omega arith))
put_place (y ∷ xs) (suc (suc j)) (suc (suc i)) x d =
    ⊎_elim (λ w. inl (ap suc w.0, w.1)) (λ w. inr (w.0, λ e. w.1 (omega arith))) (put_place xs (suc j) (suc i) x d)

-- one element more
pub each_snoc {ℓ κ} : {A : Type ℓ} {P : A → Type κ} {xs : List A} {x : A} → Each P xs → P x → Each P (xs ++ x ∷ [])
each_snoc nil p = cons p nil
each_snoc (cons q e) p = cons q (each_snoc e p)

-- several elements more
pub each_append {ℓ κ} : {A : Type ℓ} {P : A → Type κ} {xs ys : List A} → Each P xs → Each P ys → Each P (xs ++ ys)
each_append nil f = f
each_append (cons p e) f = cons p (each_append e f)

-- each element changed
pub each_mapped {ℓ κ} : {A : Type ℓ} {P : A → Type κ} {xs : List A} (f : A → A) → ((x : A) → P x → P (f x)) → Each P xs → Each P (map f xs)
each_mapped f h nil = nil
each_mapped f h (cons {x = x} q e) = cons (h x q) (each_mapped f h e)

-- what each element's image has
pub each_image {ℓ κ μ} : {A : Type ℓ} {B : Type κ} {P : B → Type μ} (f : A → B) {xs : List A} → Each (λ x. P (f x)) xs → Each P (map f xs)
each_image f nil = nil
each_image f (cons p e) = cons p (each_image f e)

-- what follows for each element
pub each_map {ℓ κ μ} : {A : Type ℓ} {P : A → Type κ} {Q : A → Type μ} {xs : List A} → ((x : A) → P x → Q x) → Each P xs → Each Q xs
each_map f nil = nil
each_map f (cons {x = x} p e) = cons (f x p) (each_map f e)

-- what follows for each element from two facts
pub each_both {ℓ κ μ ν} : {A : Type ℓ} {P : A → Type κ} {Q : A → Type μ} {R : A → Type ν} {xs : List A} → ((x : A) → P x → Q x → R x) → Each P xs → Each Q xs → Each R xs
each_both f nil nil = nil
each_both f (cons {x = x} p e) (cons q d) = cons (f x p q) (each_both f e d)

-- what everything has, each element has
pub each_any {ℓ κ} : {A : Type ℓ} {P : A → Type κ} (xs : List A) → ((x : A) → P x) → Each P xs
each_any [] h = nil
each_any (x ∷ xs) h = cons (h x) (each_any xs h)

-- a number counted, and what each number counted has
pub counted_has {κ} : {P : ℕ → Type κ} (n from k : ℕ) → Each P (counting n from) → from ≤ k → k < from + n → P k
counted_has n from k e low high =
    let i : from + (k - from) ≡ k = omega arith in
    rw (counting_at n from 0 (k - from) (omega arith), i) at (each_at 0 (k - from) e (rw counting-length (omega arith)))

-- the first that passes stands at that index
pub record First {ℓ} {A : Type ℓ} (p : A → Bool) (xs : List A) (d : A) (i : ℕ) : Type 0 where
  pub inside : i < length xs
  pub passes : p (get_or xs i d) ≡ true
  pub before : (j : ℕ) → j < i → p (get_or xs j d) ≡ false

module _ {ℓ} {A : Type ℓ} (p : A → Bool) where
  -- the first passes, or one of the others
  pub any_step : (x : A) (xs : List A) → any_passes p (x ∷ xs) ≡ p x || any_passes p xs
  unfolding any_passes
  any_step x xs = go (p x) refl
    where
      go : (t : Bool) → p x ≡ t → any_passes p (x ∷ xs) ≡ t || any_passes p xs
      go true e = rw (e, any_passes)
      go false e = rw (e, any_passes)

  any_go : (x : A) (xs : List A) (t : Bool) → p x ≡ t → any_passes p (x ∷ xs) ≡ false → (p x ≡ false) × (any_passes p xs ≡ false)
  unfolding any_passes
  any_go x xs true e h = let z : true ≡ false = rw (e, any_passes) at h in (cc, cc)
  any_go x xs false e h = (e, rw (e, any_passes) at h)

  -- none passes
  pub any_none : (xs : List A) → any_passes p xs ≡ false → Each (λ x. p x ≡ false) xs
  any_none [] h = nil
  any_none (x ∷ xs) h = let w = any_go x xs (p x) refl h in cons w.0 (any_none xs w.1)

  pub none_any : {xs : List A} → Each (λ x. p x ≡ false) xs → any_passes p xs ≡ false
  unfolding any_passes
  none_any nil = refl
  none_any (cons e es) = rw (e, any_passes) (none_any es)

  -- the same where the tests are the same on each element
  pub any_cong : (r : A → Bool) {xs : List A} → Each (λ x. p x ≡ r x) xs → any_passes p xs ≡ any_passes r xs
  unfolding any_passes
  any_cong r nil = refl
  any_cong r (cons {x = x} {xs = xs} e es) = go (r x) refl (any_cong r es)
    where
      go : (t : Bool) → r x ≡ t → any_passes p xs ≡ any_passes r xs → any_passes p (x ∷ xs) ≡ any_passes r (x ∷ xs)
      go true f rest = rw (e, f, any_passes)
      go false f rest = rw (e, f, any_passes) rest

  -- all pass
  pub every_each : (xs : List A) → every p xs ≡ true → Each (λ x. p x ≡ true) xs
  unfolding every
  every_each [] h = nil
  every_each (x ∷ xs) h = let w = (and_both (p x) (every p xs)).0 h in cons w.0 (every_each xs w.1)

  pub each_every : {xs : List A} → Each (λ x. p x ≡ true) xs → every p xs ≡ true
  unfolding every
  each_every nil = refl
  each_every (cons {x = x} {xs = xs} e es) = (and_both (p x) (every p xs)).1 (e, each_every es)

-- an option holds a type of the lowest level alone
module _ {A : Type 0} (p : A → Bool) where
  find_go : (x : A) (xs : List A) (t : Bool) → p x ≡ t → find p (x ∷ xs) ≡ None → (p x ≡ false) × (find p xs ≡ None)
  unfolding find
  find_go x xs true e h = let z : Some x ≡ None = rw (e, find) at h in (cc, cc)
  find_go x xs false e h = (e, rw (e, find) at h)

  pub find_none : (xs : List A) → find p xs ≡ None → Each (λ x. p x ≡ false) xs
  find_none [] h = nil
  find_none (x ∷ xs) h = let w = find_go x xs (p x) refl h in cons w.0 (find_none xs w.1)

  pub none_find : {xs : List A} → Each (λ x. p x ≡ false) xs → find p xs ≡ None
  unfolding find
  none_find nil = refl
  none_find (cons e es) = rw (e, find) (none_find es)

module _ {ℓ} {A : Type ℓ} (p : A → Bool) where
  first_next : (d x : A) (xs : List A) (i : ℕ) → p x ≡ false → First p xs d i → First p (x ∷ xs) d (suc i)
  first_next d x xs i e f = record { inside = omega (arith, f.inside); passes = f.passes; before = before }
    where
      before : (j : ℕ) → j < suc i → p (get_or (x ∷ xs) j d) ≡ false
      before zero h = e
      before (suc j) h = f.before j (omega arith)

  index_go : (d x : A) (xs : List A) (i : ℕ) (t : Bool) → p x ≡ t → (o : Option ℕ) → index_of p xs ≡ o
      → ((j : ℕ) → index_of p xs ≡ Some j → First p xs d j) → index_of p (x ∷ xs) ≡ Some i → First p (x ∷ xs) d i
  unfolding index_of
  index_go d x xs i true e o f ih h =
      let z : Some 0 ≡ Some i = rw (e, index_of) at h in
      let y : 0 ≡ i = cc in
      rw (← y) (record { inside = omega arith; passes = e; before = λ j l. absurd (omega arith) })
  index_go d x xs i false e None f ih h =
      let z : None ≡ Some i = rw (e, index_of, f) at h in let y : ◌≡◌ {A = ℕ} 0 1 = cc in absurd (omega arith)
  index_go d x xs i false e (Some j) f ih h =
      let z : Some (suc j) ≡ Some i = rw (e, index_of, f) at h in
      let y : suc j ≡ i = cc in
      rw (← y) (first_next d x xs j e (ih j f))

  -- the index found is that of the first that passes
  pub index_first : (d : A) (xs : List A) (i : ℕ) → index_of p xs ≡ Some i → First p xs d i
  unfolding index_of
  index_first d [] i h = let y : ◌≡◌ {A = ℕ} 0 1 = cc in absurd (omega arith)
  index_first d (x ∷ xs) i h = index_go d x xs i (p x) refl (index_of p xs) refl (index_first d xs) h

-- ---- a test of two elements, one of each list

module _ {A B : Type 0} (f : A → B → Bool) where
  each_swap : (ys : List B) {xs : List A} → Each (λ x. Each (λ y. f x y ≡ false) ys) xs → Each (λ y. Each (λ x. f x y ≡ false) xs) ys
  each_swap ys nil = each_any ys (λ y. nil)
  each_swap ys (cons e es) = each_both (λ y p rest. cons p rest) e (each_swap ys es)

  none_swap : (xs : List A) (ys : List B) → any_passes (λ x. any_passes (f x) ys) xs ≡ false → any_passes (λ y. any_passes (λ x. f x y) xs) ys ≡ false
  none_swap xs ys h =
      none_any _ (each_map (λ y e. none_any _ e) (each_swap ys (each_map (λ x e. any_none (f x) ys e) (any_none _ xs h))))

-- some pair passes, whichever list is gone through first
pub any_swap : {A B : Type 0} (f : A → B → Bool) (xs : List A) (ys : List B)
    → any_passes (λ x. any_passes (f x) ys) xs ≡ any_passes (λ y. any_passes (λ x. f x y) xs) ys
any_swap f xs ys =
    both_false _ _ (none_swap f xs ys) (none_swap (λ y x. f x y) ys xs)
  where
    both_false : (s t : Bool) → (s ≡ false → t ≡ false) → (t ≡ false → s ≡ false) → s ≡ t
    both_false false t g h = sym (g refl)
    both_false true false g h = h refl
    both_false true true g h = refl
