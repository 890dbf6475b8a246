-- A part is read and replaced at the sum of the widths before it, and cutting undoes putting side by side, there and back.
use Rattle.std.proofs.Common.{◌≡◌, ℕ, zero, suc, ◌+◌, ◌-◌, ◌<◌, ◌≤◌, true, List, [], ◌∷◌, ◌++◌, map, length, get_or, take, drop, set, sym, refl, ap, ◌∙◌, append_assoc, add_assoc, zero-add, arith, length-append, length-drop, take-append-drop, length-take-le, take_all, take-take, drop-drop, take_at, drop_at}
use lib.Seq.{take-append-le, drop-append-le, drop-append-add}
use Rattle.wire.specs.Numbers.{number, number_at, Bytes}
use Rattle.wire.specs.Regions.{splice, zeros_from}
use Rattle.wire.specs.Parts.{zeros, flat, cut, start_of, Wide}
use Rattle.wire.proofs.NumberLaws.{bytes_take, bytes_drop}
use Rattle.wire.proofs.RegionLaws.{splice_left, splice_right, splice_all}
use Rattle.wire.proofs.ZeroLaws.{length-zeros, zeros_none, zeros_add, zeros_read, zeros_tested}

-- ---- parts side by side

-- how many bytes stand before part k
unfoldable pub before : List (List ℕ) → ℕ → ℕ
before ss zero = 0
before [] (suc k) = 0
before (s ∷ ss) (suc k) = length s + before ss k

-- the one law of writing: a piece of part k replaced
pub splice-flat : (ss : List (List ℕ)) (k j : ℕ) (x : List ℕ) → k < length ss → j + length x ≤ length (get_or ss k [])
    → splice (flat ss) (before ss k + j) x ≡ flat (set ss k (splice (get_or ss k []) j x))
unfolding flat before
splice-flat [] k j x h f = absurd (omega arith)
splice-flat (s ∷ ss) zero j x h f = rw (zero-add j) (splice_left s (flat ss) j x f)
splice-flat (s ∷ ss) (suc k) j x h f =
    splice_right s (flat ss) (length s + before ss k + j) (before ss k + j) x (omega arith)
    ∙ ap (λ (t : List ℕ). s ++ t) (splice-flat ss k j x (omega arith) f)

-- the one law of reading: a piece of part k
pub read_flat : (ss : List (List ℕ)) (k j n : ℕ) → k < length ss → j + n ≤ length (get_or ss k [])
    → take n (drop (before ss k + j) (flat ss)) ≡ take n (drop j (get_or ss k []))
unfolding flat before
read_flat [] k j n h f = absurd (omega arith)
read_flat (s ∷ ss) zero j n h f =
    rw (zero-add j, drop-append-le j s (flat ss) (omega arith))
    (take-append-le n (drop j s) (flat ss) (omega (arith, length-drop j s)))
read_flat (s ∷ ss) (suc k) j n h f =
    rw (add_assoc, drop-append-add s (flat ss) (before ss k + j)) (read_flat ss k j n (omega arith) f)

pub flat_append : (a b : List (List ℕ)) → flat (a ++ b) ≡ flat a ++ flat b
unfolding flat
flat_append [] b = refl
flat_append (x ∷ xs) b = rw (flat_append xs b) (simp append_assoc)

-- ---- parts of these widths

pub before_start : (ws : List ℕ) (ss : List (List ℕ)) (k : ℕ) → Wide ws ss → before ss k ≡ start_of ws k
unfolding before
before_start ws ss zero h = refl
before_start [] [] (suc k) h = refl
before_start [] (s ∷ ss) (suc k) h = absurd h
before_start (w ∷ ws) [] (suc k) h = absurd h
before_start (w ∷ ws) (s ∷ ss) (suc k) h = let ih = before_start ws ss k h.1 in let e = h.0 in omega arith

pub wide_count : (ws : List ℕ) (ss : List (List ℕ)) → Wide ws ss → length ss ≡ length ws
wide_count [] [] h = refl
wide_count [] (s ∷ ss) h = absurd h
wide_count (w ∷ ws) [] h = absurd h
wide_count (w ∷ ws) (s ∷ ss) h = ap suc (wide_count ws ss h.1)

pub wide_at : (ws : List ℕ) (ss : List (List ℕ)) (k : ℕ) → Wide ws ss → length (get_or ss k []) ≡ get_or ws k 0
wide_at [] [] k h = refl
wide_at [] (s ∷ ss) k h = absurd h
wide_at (w ∷ ws) [] k h = absurd h
wide_at (w ∷ ws) (s ∷ ss) zero h = h.0
wide_at (w ∷ ws) (s ∷ ss) (suc k) h = wide_at ws ss k h.1

pub wide_set : (ws : List ℕ) (ss : List (List ℕ)) (k : ℕ) (y : List ℕ) → Wide ws ss → length y ≡ get_or ws k 0 → Wide ws (set ss k y)
wide_set [] [] k y h e = tt
wide_set [] (s ∷ ss) k y h e = absurd h
wide_set (w ∷ ws) [] k y h e = absurd h
wide_set (w ∷ ws) (s ∷ ss) zero y h e = (e, h.1)
wide_set (w ∷ ws) (s ∷ ss) (suc k) y h e = (h.0, wide_set ws ss k y h.1 e)

module _ (ws : List ℕ) (ss : List (List ℕ)) (wide : Wide ws ss) where
  -- a piece of part k replaced, by the table of widths
  pub write_part : (k j at : ℕ) (x : List ℕ) → k < length ws → j + length x ≤ get_or ws k 0 → at ≡ start_of ws k + j
      → splice (flat ss) at x ≡ flat (set ss k (splice (get_or ss k []) j x))
  write_part k j at x h f e =
      let b = before_start ws ss k wide in
      let n = wide_count ws ss wide in
      let l = wide_at ws ss k wide in
      let p : at ≡ before ss k + j = omega arith in
      rw p (splice-flat ss k j x (omega arith) (omega arith))

  -- a part replaced whole
  pub write_whole : (k at : ℕ) (x : List ℕ) → k < length ws → length x ≡ get_or ws k 0 → at ≡ start_of ws k → splice (flat ss) at x ≡ flat (set ss k x)
  write_whole k at x h l e =
      write_part k 0 at x h (omega arith) (omega arith) ∙ rw (splice_all (get_or ss k []) x (l ∙ sym (wide_at ws ss k wide)))

  -- a piece of part k read
  pub read_part : (k j n at : ℕ) → k < length ws → j + n ≤ get_or ws k 0 → at ≡ start_of ws k + j
      → take n (drop at (flat ss)) ≡ take n (drop j (get_or ss k []))
  read_part k j n at h f e =
      let b = before_start ws ss k wide in
      let m = wide_count ws ss wide in
      let l = wide_at ws ss k wide in
      let p : at ≡ before ss k + j = omega arith in
      rw p (read_flat ss k j n (omega arith) (omega arith))

  -- a part read whole
  pub read_whole : (k at n : ℕ) → k < length ws → n ≡ get_or ws k 0 → at ≡ start_of ws k → take n (drop at (flat ss)) ≡ get_or ss k []
  read_whole k at n h l e =
      read_part k 0 n at h (omega arith) (omega arith) ∙ take_all n (get_or ss k []) (omega (arith, wide_at ws ss k wide))

  -- a number in part k read
  pub number_part : (k j n at : ℕ) → k < length ws → j + n ≤ get_or ws k 0 → at ≡ start_of ws k + j
      → number_at (flat ss) at n ≡ number_at (get_or ss k []) j n
  unfolding number_at
  number_part k j n at h f e = ap number (read_part k j n at h f e)

pub length-flat : (ws : List ℕ) (ss : List (List ℕ)) → Wide ws ss → length (flat ss) ≡ start_of ws (length ws)
unfolding flat
length-flat [] [] h = refl
length-flat [] (s ∷ ss) h = absurd h
length-flat (w ∷ ws) [] h = absurd h
length-flat (w ∷ ws) (s ∷ ss) h = length-append s (flat ss) ∙ (let e = h.0 in let ih = length-flat ws ss h.1 in omega arith)

-- parts that are all zero
pub wide_zeros : (ws : List ℕ) → Wide ws (map zeros ws)
wide_zeros [] = tt
wide_zeros (w ∷ ws) = (length-zeros w, wide_zeros ws)

pub flat-zeros : (ws : List ℕ) → flat (map zeros ws) ≡ zeros (start_of ws (length ws))
unfolding flat
flat-zeros [] = sym zeros_none
flat-zeros (w ∷ ws) = rw (flat-zeros ws) (zeros_add w (start_of ws (length ws)))

-- ---- cut, and put together again

-- cutting takes apart what was put side by side
pub cut-flat : (ws : List ℕ) (ss : List (List ℕ)) → Wide ws ss → cut ws (flat ss) ≡ ss
unfolding cut flat
cut-flat [] [] h = refl
cut-flat [] (s ∷ ss) h = absurd h
cut-flat (w ∷ ws) [] h = absurd h
cut-flat (w ∷ ws) (s ∷ ss) h =
    rw (take_at s (flat ss) w h.0, drop_at s (flat ss) w h.0, cut-flat ws ss h.1)

-- so parts of the same widths that make the same bytes are the same parts
pub same_parts : (ws : List ℕ) (ss ts : List (List ℕ)) → Wide ws ss → Wide ws ts → flat ss ≡ flat ts → ss ≡ ts
same_parts ws ss ts h k e = sym (cut-flat ws ss h) ∙ ap (cut ws) e ∙ cut-flat ws ts k

-- what was cut makes the same bytes again
pub flat-cut : (ws s : List ℕ) → length s ≡ start_of ws (length ws) → flat (cut ws s) ≡ s
unfolding cut flat
flat-cut [] [] h = refl
flat-cut [] (x ∷ xs) h = absurd (omega arith)
flat-cut (w ∷ ws) s h = rw (flat-cut ws (drop w s) (omega (arith, length-drop w s))) (take-append-drop w s)

pub length_cut : (ws s : List ℕ) → length (cut ws s) ≡ length ws
unfolding cut
length_cut [] s = refl
length_cut (w ∷ ws) s = ap suc (length_cut ws (drop w s))

pub wide_cut : (ws s : List ℕ) → start_of ws (length ws) ≤ length s → Wide ws (cut ws s)
unfolding cut
wide_cut [] s h = tt
wide_cut (w ∷ ws) s h = (length-take-le w s (omega arith), wide_cut ws (drop w s) (omega (arith, length-drop w s)))

-- part k is what stands at its place
pub cut_at : (ws s : List ℕ) (k : ℕ) → get_or (cut ws s) k [] ≡ take (get_or ws k 0) (drop (start_of ws k) s)
unfolding cut
cut_at [] s k = refl
cut_at (w ∷ ws) s zero = refl
cut_at (w ∷ ws) s (suc k) = cut_at ws (drop w s) k ∙ ap (take (get_or ws k 0)) (drop-drop (start_of ws k) w s)

pub bytes_cut : (ws : List ℕ) {s : List ℕ} (k : ℕ) → Bytes s → Bytes (get_or (cut ws s) k [])
bytes_cut ws {s} k h = rw (cut_at ws s k) (bytes_take (get_or ws k 0) (bytes_drop (start_of ws k) h))

-- a piece of a front
pub take-drop-take : (n j m : ℕ) (s : List ℕ) → j + n ≤ m → take n (drop j (take m s)) ≡ take n (drop j s)
take-drop-take n zero m s h = take-take n m s (omega arith)
take-drop-take n (suc j) zero s h = absurd (omega arith)
take-drop-take n (suc j) (suc m) [] h = refl
take-drop-take n (suc j) (suc m) (x ∷ xs) h = take-drop-take n j m xs (omega arith)

-- a piece of a piece
pub inner : (n j m at : ℕ) (s : List ℕ) → j + n ≤ m → take n (drop j (take m (drop at s))) ≡ take n (drop (at + j) s)
inner n j m at s h = take-drop-take n j m (drop at s) h ∙ ap (take n) (drop-drop j at s)

-- a number in a piece
pub number_inner : (n j m at : ℕ) (s : List ℕ) → j + n ≤ m → number_at (take m (drop at s)) j n ≡ number_at s (at + j) n
unfolding number_at
number_inner n j m at s h = ap number (inner n j m at s h)

-- part k past its first n bytes
pub cut_rest : (ws s : List ℕ) (k n : ℕ) → n ≤ get_or ws k 0 → start_of ws k + get_or ws k 0 ≤ length s
    → drop n (get_or (cut ws s) k []) ≡ take (get_or ws k 0 - n) (drop (start_of ws k + n) s)
cut_rest ws s k n l h =
    let w : ℕ = get_or ws k 0 in
    let at : ℕ = start_of ws k in
    let d : List ℕ = take w (drop at s) in
    let m : length d ≡ w = length-take-le w (drop at s) (omega (arith, length-drop at s)) in
    ap (drop n) (cut_at ws s k)
    ∙ sym (take_all (w - n) (drop n d) (omega (arith, length-drop n d)))
    ∙ inner (w - n) n w at s (omega arith)

-- the test of the whole bytes says whether that is zero
module _ (ws s : List ℕ) (k n : ℕ) (l : n ≤ get_or ws k 0) (h : start_of ws k + get_or ws k 0 ≤ length s) where
  pub rest_zeros_read : zeros_from s (start_of ws k + n) (get_or ws k 0 - n) ≡ true → drop n (get_or (cut ws s) k []) ≡ zeros (get_or ws k 0 - n)
  rest_zeros_read t = cut_rest ws s k n l h ∙ zeros_read (get_or ws k 0 - n) s (start_of ws k + n) (omega arith) t

  pub rest_zeros_tested : drop n (get_or (cut ws s) k []) ≡ zeros (get_or ws k 0 - n) → zeros_from s (start_of ws k + n) (get_or ws k 0 - n) ≡ true
  rest_zeros_tested e = zeros_tested (get_or ws k 0 - n) s (start_of ws k + n) (omega arith) (sym (cut_rest ws s k n l h) ∙ e)
