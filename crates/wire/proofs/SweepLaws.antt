-- A loop over cells touches only the part that it runs in, and there it is f put to each cell.
use Rattle.std.proofs.Common.{◌≡◌, ℕ, zero, suc, ◌+◌, ◌-◌, ◌*◌, ◌<◌, ◌≤◌, ◌⊎◌, List, [], ◌∷◌, ◌++◌, map, length, get_or, take, drop, set, replicate, sym, refl, ap, ◌∙◌, inl, inr, ⊎_elim, mul-le-mul_left, zero-add, arith, length-append, length-drop, length-take-le, take_at}
use mathlib.Core.List.{map-map}
use lib.ListN.{length-map}
use lib.Seq.{take-append-le, drop-append-le, drop-append-add}
use Rattle.wire.specs.Regions.{splice}
use Rattle.wire.specs.Parts.{flat, start_of, Wide, zeros, cells, slots, sweep, over}
use Rattle.wire.proofs.RegionLaws.{splice_left, splice_right, splice_all, length_splice}
use Rattle.wire.proofs.PartLaws.{before, before_start, wide_count, wide_at}
use Rattle.wire.proofs.SlotLaws.{Uniform, length_uniform, uniform_cells, length_cells}

-- ---- f put to n elements of a list

module _ {A : Type 0} (f : A → A) where
  pub length_over : (i n : ℕ) (xs : List A) → length (over f i n xs) ≡ length xs
  unfolding over
  length_over i zero xs = refl
  length_over i (suc n) [] = refl
  length_over zero (suc n) (x ∷ xs) = ap suc (length_over zero n xs)
  length_over (suc i) (suc n) (x ∷ xs) = ap suc (length_over i (suc n) xs)

  -- those that it reaches, and those that it does not
  pub over_in : (i n : ℕ) (xs : List A) (k : ℕ) (d : A) → i ≤ k → k < i + n → k < length xs → get_or (over f i n xs) k d ≡ f (get_or xs k d)
  unfolding over
  over_in i zero xs k d a b h = absurd (omega arith)
  over_in i (suc n) [] k d a b h = absurd (omega arith)
  over_in zero (suc n) (x ∷ xs) zero d a b h = refl
  over_in zero (suc n) (x ∷ xs) (suc k) d a b h = over_in zero n xs k d (omega arith) (omega arith) (omega arith)
  over_in (suc i) (suc n) (x ∷ xs) zero d a b h = absurd (omega arith)
  over_in (suc i) (suc n) (x ∷ xs) (suc k) d a b h = over_in i (suc n) xs k d (omega arith) (omega arith) (omega arith)

  pub over_out : (i n : ℕ) (xs : List A) (k : ℕ) (d : A) → (k < i) ⊎ (i + n ≤ k) → get_or (over f i n xs) k d ≡ get_or xs k d
  unfolding over
  over_out i zero xs k d o = refl
  over_out i (suc n) [] k d o = refl
  over_out zero (suc n) (x ∷ xs) zero d o = absurd (⊎_elim (λ a. omega arith) (λ a. omega arith) o)
  over_out zero (suc n) (x ∷ xs) (suc k) d o = over_out zero n xs k d (⊎_elim (λ a. absurd (omega arith)) (λ a. inr (omega arith)) o)
  over_out (suc i) (suc n) (x ∷ xs) zero d o = refl
  over_out (suc i) (suc n) (x ∷ xs) (suc k) d o = over_out i (suc n) xs k d (⊎_elim (λ a. inl (omega arith)) (λ a. inr (omega arith)) o)

  -- the first of two lists side by side, whole
  pub over_front : (xs ys : List A) → over f 0 (length xs) (xs ++ ys) ≡ map f xs ++ ys
  unfolding over
  over_front [] ys = refl
  over_front (x ∷ xs) ys = ap (λ (l : List A). f x ∷ l) (over_front xs ys)

-- ---- the loop

module _ (f : List ℕ → List ℕ) (w : ℕ) (keeps : (c : List ℕ) → length c ≡ w → length (f c) ≡ w) where
  pub length_sweep : (n : ℕ) (s : List ℕ) (j : ℕ) → j + w * n ≤ length s → length (sweep f w s j n) ≡ length s
  unfolding sweep
  length_sweep zero s j h = refl
  length_sweep (suc n) s j h =
      let c : length (take w (drop j s)) ≡ w = length-take-le w (drop j s) (omega (arith, length-drop j s)) in
      let lx : length (f (take w (drop j s))) ≡ w = keeps (take w (drop j s)) c in
      let ls : length (splice s j (f (take w (drop j s)))) ≡ length s = length_splice s j _ (omega arith) in
      length_sweep n (splice s j (f (take w (drop j s)))) (j + w) (omega arith) ∙ ls

  -- a loop inside the second of two lists side by side
  pub sweep_right : (n : ℕ) (a b : List ℕ) (at j : ℕ) → at ≡ length a + j → j + w * n ≤ length b
      → sweep f w (a ++ b) at n ≡ a ++ sweep f w b j n
  unfolding sweep
  sweep_right zero a b at j e h = refl
  sweep_right (suc n) a b at j e h =
      let d : drop at (a ++ b) ≡ drop j b = ap (λ (k : ℕ). drop k (a ++ b)) e ∙ drop-append-add a b j in
      let x : List ℕ = f (take w (drop j b)) in
      let c : length (take w (drop j b)) ≡ w = length-take-le w (drop j b) (omega (arith, length-drop j b)) in
      let lx : length x ≡ w = keeps (take w (drop j b)) c in
      let ls : length (splice b j x) ≡ length b = length_splice b j x (omega arith) in
      rw (d, splice_right a b at j x e) (sweep_right n a (splice b j x) (at + w) (j + w) (omega arith) (omega arith))

  -- or inside the first
  pub sweep_left : (n : ℕ) (a b : List ℕ) (j : ℕ) → j + w * n ≤ length a → sweep f w (a ++ b) j n ≡ sweep f w a j n ++ b
  unfolding sweep
  sweep_left zero a b j h = refl
  sweep_left (suc n) a b j h =
      let t : take w (drop j (a ++ b)) ≡ take w (drop j a) =
      ap (take w) (drop-append-le j a b (omega arith)) ∙ take-append-le w (drop j a) b (omega (arith, length-drop j a)) in
      let x : List ℕ = f (take w (drop j a)) in
      let c : length (take w (drop j a)) ≡ w = length-take-le w (drop j a) (omega (arith, length-drop j a)) in
      let lx : length x ≡ w = keeps (take w (drop j a)) c in
      let ls : length (splice a j x) ≡ length a = length_splice a j x (omega arith) in
      rw (t, splice_left a b j x (omega arith)) (sweep_left n (splice a j x) b (j + w) (omega arith))

  -- a loop inside part k
  pub sweep_flat : (ss : List (List ℕ)) (k j n : ℕ) → k < length ss → j + w * n ≤ length (get_or ss k [])
      → sweep f w (flat ss) (before ss k + j) n ≡ flat (set ss k (sweep f w (get_or ss k []) j n))
  unfolding flat before
  sweep_flat [] k j n h g = absurd (omega arith)
  sweep_flat (s ∷ ss) zero j n h g = rw (zero-add j) (sweep_left n s (flat ss) j g)
  sweep_flat (s ∷ ss) (suc k) j n h g =
      sweep_right n s (flat ss) (length s + before ss k + j) (before ss k + j) (omega arith) (long k ss j n (omega arith) g)
      ∙ ap (λ (t : List ℕ). s ++ t) (sweep_flat ss k j n (omega arith) g)
    where
      long : (k : ℕ) (ss : List (List ℕ)) (j n : ℕ) → k < length ss → j + w * n ≤ length (get_or ss k []) → before ss k + j + w * n ≤ length (flat ss)
      long k [] j n h g = absurd (omega arith)
      long zero (s ∷ ss) j n h g = omega (arith, length-append s (flat ss))
      long (suc k) (s ∷ ss) j n h g = omega (arith, length-append s (flat ss), long k ss j n (omega arith) g)

  -- the same, by the table of widths
  pub sweep_part : (ws : List ℕ) (ss : List (List ℕ)) → Wide ws ss → (k j n at : ℕ) → k < length ws → j + w * n ≤ get_or ws k 0
      → at ≡ start_of ws k + j
      → sweep f w (flat ss) at n ≡ flat (set ss k (sweep f w (get_or ss k []) j n))
  sweep_part ws ss wide k j n at h g e =
      let b = before_start ws ss k wide in
      let m = wide_count ws ss wide in
      let l = wide_at ws ss k wide in
      let p : at ≡ before ss k + j = omega arith in
      rw p (sweep_flat ss k j n (omega arith) (omega arith))

  -- a loop over cells is f put to the cells
  pub sweep_cells : (n : ℕ) (cs : List (List ℕ)) (i at : ℕ) → Uniform w cs → i + n ≤ length cs → at ≡ w * i
      → sweep f w (flat cs) at n ≡ flat (over f i n cs)
  unfolding flat over sweep
  sweep_cells zero cs i at u h e = refl
  sweep_cells (suc n) [] i at u h e = absurd (omega arith)
  sweep_cells (suc n) (c ∷ cs) zero at u h e =
      let p : at ≡ 0 = omega arith in
      let t : take w (c ++ flat cs) ≡ c = take_at c (flat cs) w u.0 in
      let lx : length (f c) ≡ w = keeps c u.0 in
      let lc = length_uniform w cs u.1 in
      let s : splice (c ++ flat cs) 0 (f c) ≡ f c ++ flat cs =
      splice_left c (flat cs) 0 (f c) (omega (arith, u.0)) ∙ rw (splice_all c (f c) (lx ∙ sym u.0)) in
      let fits = mul-le-mul_left {m = n} {n = length cs} w (omega arith) in
      rw (p, t, s) (sweep_right n (f c) (flat cs) (0 + w) 0 (omega arith) (omega arith)
      ∙ ap (λ (t : List ℕ). f c ++ t) (sweep_cells n cs zero 0 u.1 (omega arith) (omega arith)))
  sweep_cells (suc n) (c ∷ cs) (suc i) at u h e =
      let lc = length_uniform w cs u.1 in
      let fits = mul-le-mul_left {m = i + suc n} {n = length cs} w (omega arith) in
      sweep_right (suc n) c (flat cs) at (w * i) (omega (arith, u.0)) (omega arith)
      ∙ ap (λ (t : List ℕ). c ++ t) (sweep_cells (suc n) cs i (w * i) u.1 (omega arith) refl)

  -- a loop over the elements in cells, where f on an element's bytes is g on the element
  pub sweep_slots : {A : Type 0} (n : ℕ) (enc : A → List ℕ) → ((x : A) → length (enc x) ≡ w) → (g : A → A) (xs : List A) → length xs ≤ n
      → map (λ x. f (enc x)) xs ≡ map (λ x. enc (g x)) xs → sweep f w (slots w n enc xs) 0 (length xs) ≡ slots w n enc (map g xs)
  unfolding slots cells
  sweep_slots n enc wide g xs h e =
      let z : List (List ℕ) = replicate (n - length xs) (zeros w) in
      let l : length (map enc xs) ≡ length xs = length-map xs enc in
      let c = length_cells w n enc wide xs h in
      sweep_cells (length xs) (map enc xs ++ z) 0 0 (uniform_cells w n enc wide xs) (omega arith) (omega arith)
      ∙ ap (λ (k : ℕ). flat (over f 0 k (map enc xs ++ z))) (sym l)
      ∙ ap flat (over_front f (map enc xs) z)
      ∙ rw (map-map f enc xs, e, ← map-map enc g xs, length-map xs g)
