-- A search that counts up, number by number: the first number that is left decides, or is passed; where only a span can be found, the
-- search is that over the span. Two tests that agree find the same.
use Rattle.std.specs.Prelude.{None, Some}
use Rattle.std.proofs.Common.{◌≡◌, ℕ, zero, suc, ◌+◌, ◌-◌, ◌<◌, ◌≤◌, Bool, true, false, List, [], ◌∷◌, sym, refl, ◌∙◌, add-one, arith}
use Rattle.rules.specs.Basics.{find, counting}

module _ (p : ℕ → Bool) where
  pub find_done : (n from : ℕ) → n ≤ 0 → find p (counting n from) ≡ None
  unfolding find counting
  find_done zero from h = refl
  find_done (suc n) from h = absurd (omega arith)

  find_same : (n m from start : ℕ) → n ≡ m → from ≡ start → find p (counting n from) ≡ find p (counting m start)
  find_same n m from start e f = rw (e, f)

  -- the first number is found
  pub find_here : (n from : ℕ) → 0 < n → p from ≡ true → find p (counting n from) ≡ Some from
  unfolding find counting
  find_here zero from h t = absurd (omega arith)
  find_here (suc n) from h t = rw t

  -- the first number is passed
  pub find_next : (n m from : ℕ) → n ≡ m + 1 → p from ≡ false → find p (counting n from) ≡ find p (counting m (from + 1))
  unfolding find counting
  find_next n m from e t = rw (e, add-one m, t, add-one from)

  -- numbers that are all passed, before those that are left
  find_after : (j n from : ℕ) → ((k : ℕ) → from ≤ k → k < from + j → p k ≡ false) → find p (counting (j + n) from) ≡ find p (counting n (from + j))
  find_after zero n from passed = find_same (0 + n) n from (from + 0) (omega arith) (omega arith)
  find_after (suc j) n from passed =
      find_next (suc j + n) (j + n) from (omega arith) (passed from (omega arith) (omega arith))
      ∙ find_after j n (from + 1) (λ k l m. passed k (omega arith) (omega arith))
      ∙ find_same n n (from + 1 + j) (from + suc j) refl (omega arith)

  -- and after them
  find_before : (n j from : ℕ) → ((k : ℕ) → from + n ≤ k → k < from + n + j → p k ≡ false) → find p (counting (n + j) from) ≡ find p (counting n from)
  find_before zero j from passed =
      find_same (0 + j) (j + 0) from from (omega arith) refl
      ∙ find_after j 0 from (λ k l m. passed k (omega arith) (omega arith))
      ∙ find_done 0 (from + j) (omega arith)
      ∙ sym (find_done 0 from (omega arith))
  find_before (suc n) j from passed = go (p from) refl (find_before n j (from + 1) (λ k l m. passed k (omega arith) (omega arith)))
    where
      go : (t : Bool) → p from ≡ t → find p (counting (n + j) (from + 1)) ≡ find p (counting n (from + 1))
          → find p (counting (suc n + j) from) ≡ find p (counting (suc n) from)
      go true e ih = find_here (suc n + j) from (omega arith) e ∙ sym (find_here (suc n) from (omega arith) e)
      go false e ih = find_next (suc n + j) (n + j) from (omega arith) e ∙ ih ∙ sym (find_next (suc n) n from (omega arith) e)

  -- where all numbers but those of a span are passed, the search is that over the span
  pub find_span : (n first last : ℕ) → 1 ≤ first → first ≤ last → last ≤ n
      → ((k : ℕ) → 1 ≤ k → k < first → p k ≡ false) → ((k : ℕ) → last < k → k ≤ n → p k ≡ false)
      → find p (counting n 1) ≡ find p (counting (last + 1 - first) first)
  find_span n first last low order high before after =
      find_same n ((first - 1) + (n + 1 - first)) 1 1 (omega arith) refl
      ∙ find_after (first - 1) (n + 1 - first) 1 (λ k l m. before k l (omega arith))
      ∙ find_same (n + 1 - first) ((last + 1 - first) + (n - last)) (1 + (first - 1)) first (omega arith) (omega arith)
      ∙ find_before (last + 1 - first) (n - last) first (λ k l m. after k (omega arith) (omega arith))

find_hit : (p : ℕ → Bool) (x : ℕ) (xs : List ℕ) → p x ≡ true → find p (x ∷ xs) ≡ Some x
unfolding find
find_hit p x xs e = rw (e, find)

find_miss : (p : ℕ → Bool) (x : ℕ) (xs : List ℕ) → p x ≡ false → find p (x ∷ xs) ≡ find p xs
unfolding find
find_miss p x xs e = rw (e, find)

pub find_cong : (p r : ℕ → Bool) → ((k : ℕ) → p k ≡ r k) → (xs : List ℕ) → find p xs ≡ find r xs
unfolding find
find_cong p r e [] = refl
find_cong p r e (x ∷ xs) = go (r x) refl (find_cong p r e xs)
  where
    go : (t : Bool) → r x ≡ t → find p xs ≡ find r xs → find p (x ∷ xs) ≡ find r (x ∷ xs)
    go true f ih = find_hit p x xs (e x ∙ f) ∙ sym (find_hit r x xs f)
    go false f ih = find_miss p x xs (e x ∙ f) ∙ ih ∙ sym (find_miss r x xs f)
