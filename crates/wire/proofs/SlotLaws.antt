-- Cells of one width: cell i stands at w * i, so an element is read, replaced or added there, and the zeros behind stay zeros.
use Rattle.std.proofs.Common.{◌≡◌, ℕ, zero, suc, ◌+◌, ◌-◌, ◌*◌, ◌<◌, ◌≤◌, List, [], ◌∷◌, ◌++◌, map, length, get_or, take, drop, set, replicate, sym, refl, ap, ◌∙◌, append_assoc, mul-le-mul_left, mul-zero, mul-suc, arith, length-append, length-drop, length-set, take-append-drop, length-take-le, take_all, drop-drop, take_at, ext_get_or, take-add, drop_at}
use mathlib.Core.List.{map-map, map-append}
use native.Mathlib.Nat.{mul-sub}
use lib.ListN.{length-replicate, length-map, get_or-append}
use lib.Seq.{set-append_left, get_or_at, set_at}
use Rattle.wire.specs.Numbers.{number, number_at, Bytes}
use Rattle.wire.specs.Regions.{splice}
use Rattle.wire.specs.Parts.{zeros, flat, cells, slots, chunks}
use Rattle.wire.proofs.NumberLaws.{bytes_take, bytes_drop}
use Rattle.wire.proofs.RegionLaws.{splice_all}
use Rattle.wire.proofs.ZeroLaws.{length-zeros, zeros_none, zeros_add}
use Rattle.wire.proofs.PartLaws.{before, splice-flat, read_flat, flat_append, take-drop-take}

-- ---- cells of one width

-- each cell has w bytes
abbrev pub Uniform : ℕ → List (List ℕ) → Type 0
Uniform w [] = Unit {0}
Uniform w (c ∷ cs) = (length c ≡ w) × Uniform w cs

pub before_uniform : (w : ℕ) (cs : List (List ℕ)) (k : ℕ) → Uniform w cs → k ≤ length cs → before cs k ≡ w * k
unfolding before
before_uniform w cs zero u h = omega arith
before_uniform w [] (suc k) u h = absurd (omega arith)
before_uniform w (c ∷ cs) (suc k) u h = let ih = before_uniform w cs k u.1 (omega arith) in let e = u.0 in omega arith

pub uniform_at : (w : ℕ) (cs : List (List ℕ)) (k : ℕ) → Uniform w cs → k < length cs → length (get_or cs k []) ≡ w
uniform_at w [] k u h = absurd (omega arith)
uniform_at w (c ∷ cs) zero u h = u.0
uniform_at w (c ∷ cs) (suc k) u h = uniform_at w cs k u.1 (omega arith)

pub length_uniform : (w : ℕ) (cs : List (List ℕ)) → Uniform w cs → length (flat cs) ≡ w * length cs
unfolding flat
length_uniform w [] u = omega arith
length_uniform w (c ∷ cs) u = length-append c (flat cs) ∙ (let e = u.0 in let ih = length_uniform w cs u.1 in omega arith)

pub uniform_append : (w : ℕ) (cs ds : List (List ℕ)) → Uniform w cs → Uniform w ds → Uniform w (cs ++ ds)
uniform_append w [] ds u v = v
uniform_append w (c ∷ cs) ds u v = (u.0, uniform_append w cs ds u.1 v)

pub uniform_map : {A : Type 0} (w : ℕ) (f : A → List ℕ) (xs : List A) → ((x : A) → length (f x) ≡ w) → Uniform w (map f xs)
uniform_map w f [] h = tt
uniform_map w f (x ∷ xs) h = (h x, uniform_map w f xs h)

pub uniform_replicate : (w n : ℕ) (c : List ℕ) → length c ≡ w → Uniform w (replicate n c)
uniform_replicate w zero c h = tt
uniform_replicate w (suc n) c h = (h, uniform_replicate w n c h)

-- a piece of cell k replaced
pub write_cell : (w : ℕ) (cs : List (List ℕ)) → Uniform w cs → (k j at : ℕ) (x : List ℕ) → k < length cs → j + length x ≤ w → at ≡ w * k + j
    → splice (flat cs) at x ≡ flat (set cs k (splice (get_or cs k []) j x))
write_cell w cs u k j at x h f e =
    let b = before_uniform w cs k u (omega arith) in
    let l = uniform_at w cs k u h in
    let p : at ≡ before cs k + j = omega arith in
    rw p (splice-flat cs k j x h (omega arith))

-- a piece of cell k read
pub read_cell : (w : ℕ) (cs : List (List ℕ)) → Uniform w cs → (k j n at : ℕ) → k < length cs → j + n ≤ w → at ≡ w * k + j
    → take n (drop at (flat cs)) ≡ take n (drop j (get_or cs k []))
read_cell w cs u k j n at h f e =
    let b = before_uniform w cs k u (omega arith) in
    let l = uniform_at w cs k u h in
    let p : at ≡ before cs k + j = omega arith in
    rw p (read_flat cs k j n h (omega arith))

pub flat_zero_cells : (w n : ℕ) → flat (replicate n (zeros w)) ≡ zeros (w * n)
unfolding flat
flat_zero_cells w zero = sym zeros_none ∙ ap zeros (sym (mul-zero w))
flat_zero_cells w (suc n) = let e : w + w * n ≡ w * suc n = omega arith in rw (flat_zero_cells w n) (zeros_add w (w * n) ∙ rw e)

-- ---- bytes taken apart into cells

pub length-chunks : (w n : ℕ) (s : List ℕ) → length (chunks w n s) ≡ n
unfolding chunks
length-chunks w zero s = refl
length-chunks w (suc n) s = ap suc (length-chunks w n (drop w s))

pub uniform_chunks : (w n : ℕ) (s : List ℕ) → w * n ≤ length s → Uniform w (chunks w n s)
unfolding chunks
uniform_chunks w zero s h = tt
uniform_chunks w (suc n) s h = (length-take-le w s (omega arith), uniform_chunks w n (drop w s) (omega (arith, length-drop w s)))

-- cell i is what stands at w * i
pub chunk_at : (w n : ℕ) (s : List ℕ) (i : ℕ) → i < n → get_or (chunks w n s) i [] ≡ take w (drop (w * i) s)
unfolding chunks
chunk_at w zero s i h = absurd (omega arith)
chunk_at w (suc n) s zero h = let e : w * 0 ≡ 0 = omega arith in rw e
chunk_at w (suc n) s (suc i) h =
    let e : w + w * i ≡ w * suc i = omega arith in
    chunk_at w n (drop w s) i (omega arith) ∙ ap (take w) (drop-drop (w * i) w s ∙ ap (λ (k : ℕ). drop k s) e)

-- cells inside the first bytes are cells of the whole
pub chunks-within : (w n at m : ℕ) (s : List ℕ) → at + w * n ≤ m → chunks w n (drop at (take m s)) ≡ chunks w n (drop at s)
unfolding chunks
chunks-within w zero at m s h = refl
chunks-within w (suc n) at m s h =
    let e : w * suc n ≡ w + w * n = omega (arith, mul-suc w n) in
    rw (take-drop-take w at m s (omega arith), drop-drop w at (take m s), drop-drop w at s, chunks-within w n (at + w) m s (omega arith))

pub chunks_front : (w n m : ℕ) (s : List ℕ) → w * n ≤ m → chunks w n (take m s) ≡ chunks w n s
chunks_front w n m s h = chunks-within w n 0 m s (omega arith)

-- the cells side by side are the bytes again
pub flat-chunks : (w n : ℕ) (s : List ℕ) → flat (chunks w n s) ≡ take (w * n) s
unfolding chunks flat
flat-chunks w zero s = let e : w * 0 ≡ 0 = omega arith in rw e
flat-chunks w (suc n) s = let e : w * suc n ≡ w + w * n = omega arith in rw (flat-chunks w n (drop w s), e) (sym (take-add w (w * n) s))

-- the first cells are read back, whatever stands behind them
pub chunks-flat : (w : ℕ) (cs ds : List (List ℕ)) → Uniform w cs → chunks w (length cs) (flat (cs ++ ds)) ≡ cs
unfolding chunks flat
chunks-flat w [] ds u = refl
chunks-flat w (c ∷ cs) ds u =
    rw (take_at c (flat (cs ++ ds)) w u.0, drop_at c (flat (cs ++ ds)) w u.0, chunks-flat w cs ds u.1)

-- bytes are cells side by side when each cell is what stands at its place
pub flat_by_cells : (w : ℕ) (cs : List (List ℕ)) (s : List ℕ) → length s ≡ w * length cs
    → ((i : ℕ) → i < length cs → get_or cs i [] ≡ take w (drop (w * i) s)) → flat cs ≡ s
flat_by_cells w cs s l h =
    let e : cs ≡ chunks w (length cs) s =
    ext_get_or [] cs (chunks w (length cs) s) (sym (length-chunks w (length cs) s)) (λ i k. h i k ∙ sym (chunk_at w (length cs) s i k)) in
    ap flat e ∙ flat-chunks w (length cs) s ∙ take_all (w * length cs) s (omega arith)

-- ---- elements in cells, and zeros behind them

pub map-set : {A B : Type 0} (f : A → B) (xs : List A) (i : ℕ) (y : A) → set (map f xs) i (f y) ≡ map f (set xs i y)
map-set f [] i y = refl
map-set f (x ∷ xs) zero y = refl
map-set f (x ∷ xs) (suc i) y = ap (λ (l : List _). f x ∷ l) (map-set f xs i y)

pub map_get : {A B : Type 0} (f : A → B) (xs : List A) (i : ℕ) (d : A) (e : B) → i < length xs → get_or (map f xs) i e ≡ f (get_or xs i d)
map_get f [] i d e h = absurd (omega arith)
map_get f (x ∷ xs) zero d e h = refl
map_get f (x ∷ xs) (suc i) d e h = map_get f xs i d e (omega arith)

module _ {A : Type 0} (w n : ℕ) (enc : A → List ℕ) (wide : (x : A) → length (enc x) ≡ w) where
  pub uniform_cells : (xs : List A) → Uniform w (cells w n enc xs)
  unfolding cells
  uniform_cells xs =
      uniform_append w (map enc xs) (replicate (n - length xs) (zeros w)) (uniform_map w enc xs wide)
      (uniform_replicate w (n - length xs) (zeros w) (length-zeros w))

  pub length_cells : (xs : List A) → length xs ≤ n → length (cells w n enc xs) ≡ n
  unfolding cells
  length_cells xs h = length-append (map enc xs) _ ∙ rw (length-map, length-replicate) (omega arith)

  pub length_slots : (xs : List A) → length xs ≤ n → length (slots w n enc xs) ≡ w * n
  unfolding slots
  length_slots xs h = length_uniform w _ (uniform_cells xs) ∙ rw (length_cells xs h)

  -- the elements, then zeros
  pub slots_split : (xs : List A) → slots w n enc xs ≡ flat (map enc xs) ++ zeros (w * n - w * length xs)
  unfolding slots cells
  slots_split xs = flat_append (map enc xs) (replicate (n - length xs) (zeros w)) ∙ rw (flat_zero_cells w (n - length xs), mul-sub w n (length xs))

  pub slots_none : slots w n enc [] ≡ zeros (w * n)
  unfolding flat
  slots_none = slots_split [] ∙ (let e : w * n - w * 0 ≡ w * n = omega arith in rw e)

  -- behind the elements stand zeros
  pub slots_rest : (xs : List A) → drop (w * length xs) (slots w n enc xs) ≡ zeros (w * n - w * length xs)
  slots_rest xs =
      ap (drop (w * length xs)) (slots_split xs)
      ∙ drop_at (flat (map enc xs)) (zeros (w * n - w * length xs)) (w * length xs)
      (length_uniform w (map enc xs) (uniform_map w enc xs wide) ∙ rw length-map)

  cell_of : (xs : List A) (i : ℕ) (d : A) → i < length xs → get_or (cells w n enc xs) i [] ≡ enc (get_or xs i d)
  unfolding cells
  cell_of xs i d h =
      let l : length (map enc xs) ≡ length xs = length-map xs enc in
      get_or-append (map enc xs) (replicate (n - length xs) (zeros w)) [] i (omega arith) ∙ map_get enc xs i d [] h

  -- a piece of an element read
  pub slots_get : (xs : List A) (i j m at : ℕ) (d : A) → length xs ≤ n → i < length xs → j + m ≤ w → at ≡ w * i + j
      → take m (drop at (slots w n enc xs)) ≡ take m (drop j (enc (get_or xs i d)))
  unfolding slots
  slots_get xs i j m at d h hi hj e =
      let c = length_cells xs h in
      read_cell w (cells w n enc xs) (uniform_cells xs) i j m at (omega arith) hj e ∙ rw (cell_of xs i d hi)

  -- a number in an element
  pub slots_number : (xs : List A) (i j m at : ℕ) (d : A) → length xs ≤ n → i < length xs → j + m ≤ w → at ≡ w * i + j
      → number_at (slots w n enc xs) at m ≡ number_at (enc (get_or xs i d)) j m
  unfolding number_at
  slots_number xs i j m at d h hi hj e = ap number (slots_get xs i j m at d h hi hj e)

  -- one element changed, by a piece of it
  pub slots_set : (xs : List A) (i j at : ℕ) (y : List ℕ) (d x' : A) → length xs ≤ n → i < length xs → j + length y ≤ w → at ≡ w * i + j
      → splice (enc (get_or xs i d)) j y ≡ enc x' → splice (slots w n enc xs) at y ≡ slots w n enc (set xs i x')
  unfolding slots cells
  slots_set xs i j at y d x' h hi hj e s =
      let z : List (List ℕ) = replicate (n - length xs) (zeros w) in
      let l : length (map enc xs) ≡ length xs = length-map xs enc in
      let c = length_cells xs h in
      let g : get_or (map enc xs ++ z) i [] ≡ enc (get_or xs i d) = cell_of xs i d hi in
      write_cell w (map enc xs ++ z) (uniform_cells xs) i j at y (omega arith) hj e
      ∙ rw (g, s, set-append_left (map enc xs) z i (enc x') (omega arith), map-set enc xs i x', length-set)

  -- one element more
  pub slots_snoc : (xs : List A) (at : ℕ) (x : A) → length xs < n → at ≡ w * length xs
      → splice (slots w n enc xs) at (enc x) ≡ slots w n enc (xs ++ x ∷ [])
  unfolding slots cells
  slots_snoc xs at x h e =
      let z : List ℕ = zeros w in
      let m : ℕ = n - suc (length xs) in
      let e1 : n - length xs ≡ suc m = omega arith in
      let e2 : n - length (xs ++ x ∷ []) ≡ m = omega (arith, length-append xs (x ∷ [])) in
      let l : length (map enc xs) ≡ length xs = length-map xs enc in
      let u : Uniform w (map enc xs ++ replicate (n - length xs) z) = uniform_cells xs in
      let c = length_cells xs (omega arith) in
      let g : get_or (map enc xs ++ z ∷ replicate m z) (length xs) [] ≡ z = get_or_at (map enc xs) z (replicate m z) [] (length xs) l in
      let a : splice z 0 (enc x) ≡ enc x = splice_all z (enc x) (wide x ∙ sym (length-zeros w)) in
      write_cell w (map enc xs ++ replicate (n - length xs) z) u (length xs) 0 at (enc x) (omega arith) (omega (arith, wide x)) (omega arith)
      ∙ rw (e1, g, a, set_at (map enc xs) z (replicate m z) (enc x) (length xs) l, e2, map-append enc xs (x ∷ [])) (simp append_assoc)

  -- the elements are read back
  pub chunks_slots : (xs : List A) → chunks w (length xs) (slots w n enc xs) ≡ map enc xs
  unfolding slots cells
  chunks_slots xs =
      ap (λ (k : ℕ). chunks w k (flat (map enc xs ++ replicate (n - length xs) (zeros w)))) (sym (length-map xs enc))
      ∙ chunks-flat w (map enc xs) (replicate (n - length xs) (zeros w)) (uniform_map w enc xs wide)

  pub unslots : (dec : List ℕ → A) (xs : List A) → map (λ x. dec (enc x)) xs ≡ xs → map dec (chunks w (length xs) (slots w n enc xs)) ≡ xs
  unslots dec xs h = rw (chunks_slots xs) (map-map dec enc xs ∙ h)

module _ {A : Type 0} (w : ℕ) (enc : A → List ℕ) (dec : List ℕ → A) (again : (c : List ℕ) → Bytes c → length c ≡ w → enc (dec c) ≡ c) where
  -- what was read from cells makes the same cells
  pub chunks_again : (k : ℕ) {s : List ℕ} → Bytes s → w * k ≤ length s → map enc (map dec (chunks w k s)) ≡ chunks w k s
  unfolding chunks
  chunks_again zero h l = refl
  chunks_again (suc k) {s} h l =
      rw (again (take w s) (bytes_take w h) (length-take-le w s (omega arith)), chunks_again k (bytes_drop w h) (omega (arith, length-drop w s)))

  -- and the same bytes, where those behind are zero
  pub slots_again : (n k : ℕ) {s : List ℕ} → Bytes s → length s ≡ w * n → k ≤ n → drop (w * k) s ≡ zeros (w * n - w * k)
      → slots w n enc (map dec (chunks w k s)) ≡ s
  unfolding slots cells
  slots_again n k {s} h l m z =
      let c : length (map dec (chunks w k s)) ≡ k = length-map (chunks w k s) dec ∙ length-chunks w k s in
      let q = mul-le-mul_left {m = k} {n = n} w m in
      flat_append (map enc (map dec (chunks w k s))) _
      ∙ rw (chunks_again k h (omega arith), c, flat_zero_cells w (n - k), mul-sub w n k, flat-chunks w k s, ← z) (take-append-drop (w * k) s)
