-- Zero bytes: how many, side by side, under a number or a region, and found by the test.
use Rattle.std.proofs.Common.{◌≡◌, ℕ, zero, suc, ◌+◌, ◌-◌, ◌≤◌, true, eqb, List, [], ◌∷◌, ◌++◌, length, get_or, take, drop, replicate, sym, refl, ap, ◌∙◌, add-one, arith, length-append, drop-cons, take_at, eq-eqb, eqb-true}
use mathlib.Core.Bool.{and-eq-true_iff}
use lib.ListN.{length-replicate, replicate-append-replicate}
use borrow.Rule.Slice.PartMut.{put_mid}
use Rattle.std.specs.List.{between}
use Rattle.std.proofs.lemmas.List.Edits.{length-between}
use Rattle.wire.specs.Numbers.{le, Bytes, none, more}
use Rattle.wire.specs.Regions.{splice, zeros_from}
use Rattle.wire.specs.Parts.{zeros, padded}
use Rattle.wire.proofs.RegionLaws.{part_spliced, splice_left, splice_all}

pub length-zeros : (n : ℕ) → length (zeros n) ≡ n
unfolding zeros
length-zeros n = length-replicate n 0

pub bytes_zeros : (n : ℕ) → Bytes (zeros n)
unfolding zeros
bytes_zeros zero = none
bytes_zeros (suc n) = more {b = 0} (omega arith) (bytes_zeros n)

pub zeros_none : zeros 0 ≡ []
unfolding zeros
zeros_none = refl

pub zeros_add : (m n : ℕ) → zeros m ++ zeros n ≡ zeros (m + n)
unfolding zeros
zeros_add m n = replicate-append-replicate m n 0

-- the number 0 is zeros
pub le_zero : (w : ℕ) → le w 0 ≡ zeros w
unfolding le zeros
le_zero zero = refl
le_zero (suc w) = ap (λ (l : List ℕ). 0 ∷ l) (le_zero w)

-- a part of a list that is filled with zeros
pub part_cleared : (d : List ℕ) (at n : ℕ) (part : List ℕ) → at + n ≤ length d
    → part ≡ replicate (length (between at (at + n) d)) 0 → put_mid at (at + n - at) d part ≡ splice d at (zeros n)
unfolding zeros
part_cleared d at n part h e =
    let l : length (between at (at + n) d) ≡ n = length-between d at (at + n) h ∙ omega arith in
    part_spliced d at (at + n - at) part (zeros n) (e ∙ ap (λ (k : ℕ). replicate k 0) l) (omega (arith, length-zeros n))

-- ---- bytes, and zeros up to n

module _ (n : ℕ) (s : List ℕ) where
  pub length_padded : length s ≤ n → length (padded n s) ≡ n
  unfolding padded
  length_padded h = length-append s _ ∙ omega (arith, length-zeros (n - length s))

  -- the bytes read back
  pub take_padded : take (length s) (padded n s) ≡ s
  unfolding padded
  take_padded = take_at s (zeros (n - length s)) (length s) refl

  -- bytes put at the front of zeros
  pub splice_zeros : length s ≤ n → splice (zeros n) 0 s ≡ padded n s
  unfolding padded
  splice_zeros h =
      let e : n ≡ length s + (n - length s) = omega arith in
      ap (λ (k : ℕ). splice (zeros k) 0 s) e
      ∙ ap (λ (l : List ℕ). splice l 0 s) (sym (zeros_add (length s) (n - length s)))
      ∙ splice_left (zeros (length s)) (zeros (n - length s)) 0 s (omega (arith, length-zeros (length s)))
      ∙ rw (splice_all (zeros (length s)) s (sym (length-zeros (length s))))

-- ---- the test

-- what the test found reads as zeros
pub zeros_read : (n : ℕ) (s : List ℕ) (at : ℕ) → at + n ≤ length s → zeros_from s at n ≡ true → take n (drop at s) ≡ zeros n
unfolding zeros_from zeros
zeros_read zero s at h e = refl
zeros_read (suc n) s at h e =
    let b = (and-eq-true_iff (eqb (get_or s at 0) 0) (zeros_from s (at + 1) n)).0 e in
    let z : get_or s at 0 ≡ 0 = eqb-true _ _ b.0 in
    let r : take n (drop (at + 1) s) ≡ zeros n = zeros_read n s (at + 1) (omega arith) b.1 in
    rw (drop-cons s at 0 (omega arith), z, ← add-one at, r)

-- what reads as zeros the test finds
pub zeros_tested : (n : ℕ) (s : List ℕ) (at : ℕ) → at + n ≤ length s → take n (drop at s) ≡ zeros n → zeros_from s at n ≡ true
unfolding zeros_from zeros
zeros_tested zero s at h e = refl
zeros_tested (suc n) s at h e =
    let c : get_or s at 0 ∷ take n (drop (suc at) s) ≡ 0 ∷ zeros n = rw (drop-cons s at 0 (omega arith)) at e in
    let z : get_or s at 0 ≡ 0 = ap (λ (l : List ℕ). get_or l 0 0) c in
    let r : take n (drop (suc at) s) ≡ zeros n = ap (drop 1) c in
    rw (eq-eqb _ _ z, zeros_tested n s (at + 1) (omega arith) (rw add-one r))
