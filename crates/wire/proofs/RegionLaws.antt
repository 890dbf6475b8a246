-- What a replaced region holds, and what it leaves.
use Rattle.std.proofs.Common.{◌≡◌, ℕ, zero, suc, ◌+◌, ◌-◌, ◌^◌, ◌<◌, ◌≤◌, Bool, true, ◌&&◌, eqb, ◌⊎◌, List, [], ◌∷◌, ◌++◌, length, get_or, take, drop, set, sym, refl, ap, ◌∙◌, ⊎_elim, append_assoc, append-nil, add-zero, zero-add, add-one, arith, length-append, length-drop, take-append-drop, length-take-le, get_or-drop, get_or-take, take-take, drop-drop, take_at, get_or-append-add, drop_at}
use mathlib.Core.Bool.{and_assoc, and-true}
use lib.ListN.{get_or-append}
use lib.Seq.{paste-zero, paste-suc, length-paste, length_paste_head, take-length, drop-length, take-append-le, take-append-add, drop-append-le, drop-append-add, set_split}
use borrow.Rule.Slice.PartMut.{put_mid}
use Rattle.std.specs.List.{between}
use Rattle.std.proofs.lemmas.List.Edits.{get_or-between}
use Rattle.std.proofs.lemmas.Slice.{put_mid-paste}
use Rattle.wire.specs.Numbers.{number, number_at, le, Bytes}
use Rattle.wire.specs.Regions.{splice, pasted, Apart, zeros_from}
use Rattle.wire.proofs.NumberLaws.{length-le, number-le, bytes_take, bytes_drop, bytes_append}

-- ---- a region replaced, byte by byte

pub pasted_none : (d : List ℕ) (at : ℕ) (s : List ℕ) → d ≡ pasted d at s 0
unfolding pasted
pasted_none d at s = paste-zero d at s

pub pasted-more : (d : List ℕ) (at : ℕ) (s x : List ℕ) (j : ℕ) → at + j < length d → j < length s → x ≡ pasted d at s j
    → set x (at + j) (get_or s j 0) ≡ pasted d at s (j + 1)
unfolding pasted
pasted-more d at s x j hd hs e = rw (e, add-one) (paste-suc d at s j 0 hd hs)

-- a part of a list that holds a region now
pub part_spliced : (d : List ℕ) (at k : ℕ) (part s : List ℕ) → part ≡ s → k ≡ length s → put_mid at k d part ≡ splice d at s
unfolding splice pasted
part_spliced d at k part s e h = put_mid-paste at k d part s (length s) e (sym h) refl

-- a copy of the first n bytes is a splice of them
pub pasted-splice : (d : List ℕ) (at : ℕ) (s : List ℕ) (n : ℕ) → n ≤ length s → pasted d at s n ≡ splice d at (take n s)
unfolding splice pasted
pasted-splice d at s n h =
    let l : length (take n s) ≡ n = length-take-le n s h in
    rw (l, take-take n n s (omega arith))

pub length-pasted : (d : List ℕ) (at : ℕ) (s : List ℕ) (n : ℕ) → at + n ≤ length d → n ≤ length s → length (pasted d at s n) ≡ length d
unfolding pasted
length-pasted d at s n hd hs = length-paste d at s n hd hs

-- what stands before the region and after it
pub get_pasted_before : (d : List ℕ) (at : ℕ) (s : List ℕ) (n k : ℕ) → at ≤ length d → k < at → get_or (pasted d at s n) k 0 ≡ get_or d k 0
unfolding pasted
get_pasted_before d at s n k hd h =
    let l : length (take at d) ≡ at = length-take-le at d hd in
    get_or-append (take at d ++ take n s) (drop (at + n) d) 0 k (omega (arith, length-append (take at d) (take n s)))
    ∙ get_or-append (take at d) (take n s) 0 k (omega arith)
    ∙ get_or-take at d k 0 h

pub get_pasted_after : (d : List ℕ) (at : ℕ) (s : List ℕ) (n k : ℕ) → at ≤ length d → n ≤ length s → at + n ≤ k
    → get_or (pasted d at s n) k 0 ≡ get_or d k 0
unfolding pasted
get_pasted_after d at s n k hd hs h =
    let p : List ℕ = take at d ++ take n s in
    let l : length p ≡ at + n = length_paste_head d at s n hd hs in
    let e : k ≡ length p + (k - (at + n)) = omega arith in
    ap (λ (i : ℕ). get_or (p ++ drop (at + n) d) i 0) e
    ∙ get_or-append-add p (drop (at + n) d) (k - (at + n)) 0
    ∙ get_or-drop (at + n) d (k - (at + n)) 0
    ∙ ap (λ (i : ℕ). get_or d i 0) (omega arith)

-- one byte more of a region that is copied within a list
pub within_more : (l : List ℕ) (from to n : ℕ) (x : List ℕ) (i : ℕ) → Apart from to n → from + n ≤ length l → to + n ≤ length l → i < n
    → x ≡ pasted l to (drop from l) i → set x (to + i) (get_or x (from + i) 0) ≡ pasted l to (drop from l) (i + 1)
within_more l from to n x i a hf ht hi e =
    let m : length (drop from l) ≡ length l - from = length-drop from l in
    let read : get_or x (from + i) 0 ≡ get_or (drop from l) i 0 =
    ap (λ (y : List ℕ). get_or y (from + i) 0) e
    ∙ ⊎_elim (λ w. get_pasted_before l to (drop from l) i (from + i) (omega arith) (omega arith))
    (λ w. get_pasted_after l to (drop from l) i (from + i) (omega arith) (omega arith) (omega arith)) a
    ∙ sym (get_or-drop from l i 0) in
    ap (set x (to + i)) read ∙ pasted-more l to (drop from l) x i (omega arith) (omega arith) e

-- ---- a region replaced

module _ (s : List ℕ) (at : ℕ) (x : List ℕ) where
  pub splice_take_drop : splice s at x ≡ take at s ++ (x ++ drop (at + length x) s)
  unfolding splice pasted
  splice_take_drop = rw (take-length x) (append_assoc (take at s) x (drop (at + length x) s))

  pub length_splice : at + length x ≤ length s → length (splice s at x) ≡ length s
  unfolding splice
  length_splice h = length-pasted s at x (length x) h (omega arith)

  pub bytes_splice : Bytes s → Bytes x → Bytes (splice s at x)
  unfolding splice pasted
  bytes_splice h k = bytes_append (bytes_append (bytes_take at h) (bytes_take (length x) k)) (bytes_drop (at + length x) h)

  -- the region reads back
  pub read_splice : at + length x ≤ length s → take (length x) (drop at (splice s at x)) ≡ x
  read_splice h =
      rw (splice_take_drop, drop_at (take at s) (x ++ drop (at + length x) s) at (length-take-le at s (omega arith))) (take_at x (drop (at + length x) s) (length x) refl)

  -- what stands outside the region is unchanged
  pub get_splice_other : (k : ℕ) → at + length x ≤ length s → (k < at) ⊎ (at + length x ≤ k) → get_or (splice s at x) k 0 ≡ get_or s k 0
  unfolding splice
  get_splice_other k h o =
      ⊎_elim (λ w. get_pasted_before s at x (length x) k (omega arith) w)
      (λ w. get_pasted_after s at x (length x) k (omega arith) (omega arith) w) o

-- a region of one
pub splice_one : (s : List ℕ) (at x : ℕ) → at < length s → splice s at (x ∷ []) ≡ set s at x
splice_one s at x h = splice_take_drop s at (x ∷ []) ∙ rw (add-one at) (sym (set_split s at x h))

-- an empty region
pub splice_none : (s : List ℕ) (at : ℕ) → splice s at [] ≡ s
splice_none s at = splice_take_drop s at [] ∙ rw (add-zero at) (take-append-drop at s)

-- a region of two lists side by side lies in the left one
pub splice_left : (a b : List ℕ) (at : ℕ) (x : List ℕ) → at + length x ≤ length a → splice (a ++ b) at x ≡ splice a at x ++ b
unfolding splice pasted
splice_left a b at x h =
    let t : take at (a ++ b) ≡ take at a = take-append-le at a b (omega arith) in
    let d : drop (at + length x) (a ++ b) ≡ drop (at + length x) a ++ b = drop-append-le (at + length x) a b h in
    rw (t, d) (sym (append_assoc (take at a ++ take (length x) x) (drop (at + length x) a) b))

-- or in the right one
pub splice_right : (a b : List ℕ) (at j : ℕ) (x : List ℕ) → at ≡ length a + j → splice (a ++ b) at x ≡ a ++ splice b j x
unfolding splice pasted
splice_right a b at j x e =
    let t : take (length a + j) (a ++ b) ≡ a ++ take j b = take-append-add a b j in
    let f : length a + j + length x ≡ length a + (j + length x) = omega arith in
    let d : drop (length a + (j + length x)) (a ++ b) ≡ drop (j + length x) b = drop-append-add a b (j + length x) in
    rw (e, t, f, d) (simp append_assoc)

-- two regions, one behind the other
pub splice-append : (s : List ℕ) (at : ℕ) (x y : List ℕ) → at ≤ length s → splice (splice s at x) (at + length x) y ≡ splice s at (x ++ y)
splice-append s at x y h =
    let p : List ℕ = take at s ++ x in
    let d : List ℕ = drop (at + length x) s in
    let whole : splice s at x ≡ p ++ d = splice_take_drop s at x ∙ sym (append_assoc (take at s) x d) in
    let n : at + length x ≡ length p + 0 = omega (arith, length-append (take at s) x, length-take-le at s h) in
    let e : List ℕ = drop (at + length (x ++ y)) s in
    let m : at + length x + (0 + length y) ≡ at + length (x ++ y) = omega (arith, length-append x y) in
    let rest : splice d 0 y ≡ y ++ e =
    splice_take_drop d 0 y ∙ ap (λ (l : List ℕ). y ++ l) (drop-drop (0 + length y) (at + length x) s ∙ ap (λ (k : ℕ). drop k s) m) in
    rw whole (splice_right p d (at + length x) 0 y n
    ∙ ap (λ (l : List ℕ). p ++ l) rest
    ∙ append_assoc (take at s) x (y ++ e)
    ∙ ap (λ (l : List ℕ). take at s ++ l) (sym (append_assoc x y e))
    ∙ sym (splice_take_drop s at (x ++ y)))

-- a whole list is replaced
pub splice_all : (a x : List ℕ) → length x ≡ length a → splice a 0 x ≡ x
unfolding splice pasted
splice_all a x h =
    let d : drop (0 + length x) a ≡ [] = ap (λ (k : ℕ). drop k a) (zero-add (length x) ∙ h) ∙ drop-length a in
    rw (take-length x, d) (append-nil x)

-- a number that was written reads back
pub number-splice : (s : List ℕ) (at w v : ℕ) → at + w ≤ length s → v < 256 ^ w → number_at (splice s at (le w v)) at w ≡ v
unfolding number_at
number-splice s at w v h l =
    let x : List ℕ = le w v in
    let n : length x ≡ w = length-le w v in
    ap (λ (k : ℕ). number (take k (drop at (splice s at x)))) (sym n) ∙ ap number (read_splice s at x (omega arith)) ∙ number-le w v l

-- ---- zeros

pub zeros_done : (s : List ℕ) (k n : ℕ) → n ≤ 0 → zeros_from s k n ≡ true
unfolding zeros_from
zeros_done s k zero h = refl
zeros_done s k (suc n) h = absurd (omega arith)

pub zeros-step : (s : List ℕ) (k n m : ℕ) → n ≡ m + 1 → zeros_from s k n ≡ (eqb (get_or s k 0) 0 && zeros_from s (k + 1) m)
unfolding zeros_from
zeros-step s k n m e = rw (e, add-one m)

pub zeros-so_far : (ok : Bool) (s : List ℕ) (k n m : ℕ) → n ≡ m + 1
    → (ok && zeros_from s k n) ≡ ((ok && eqb (get_or s k 0) 0) && zeros_from s (k + 1) m)
zeros-so_far ok s k n m e = rw (zeros-step s k n m e) (sym (and_assoc ok _ _))

-- one byte more of the region from `from` on
pub zeros_between : (ok : Bool) (s : List ℕ) (from n i : ℕ) → i < n
    → (ok && zeros_from s (from + i) (n - i)) ≡ ((ok && eqb (get_or (between from (from + n) s) i 0) 0) && zeros_from s (from + (i + 1)) (n - (i + 1)))
zeros_between ok s from n i h =
    let b : get_or (between from (from + n) s) i 0 ≡ get_or s (from + i) 0 = get_or-between s from (from + n) i 0 (omega arith) in
    let e : n - i ≡ n - (i + 1) + 1 = omega arith in
    let a : from + i + 1 ≡ from + (i + 1) = omega arith in
    rw (zeros-step s (from + i) (n - i) (n - (i + 1)) e, b, a) (sym (and_assoc ok _ _))

pub zeros_all : (ok : Bool) (s : List ℕ) (k n : ℕ) → n ≤ 0 → (ok && zeros_from s k n) ≡ ok
zeros_all ok s k n h = rw (zeros_done s k n h) (and-true ok)
