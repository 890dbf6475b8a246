-- A loop over cells as code runs it: what is left runs down, and each step is one number or one status written.
use Prim.Native.Nat.{ℕ, zero, suc, ◌+◌, ◌%◌, ◌^◌, ◌≤◌}
use mathlib.Core.Path.{◌≡◌, refl, sym, ap, ◌∙◌}
use mathlib.Core.List.{List, ◌++◌}
use native.Mathlib.Numerals.{add-one}
use native.Mathlib.Omega.{arith}
use lib.ListN.{length, get_or, take, drop, length-drop, take-append-drop}
use lib.Seq.{length-take-le, get_or-take, get_or-drop}
use borrow.Author.Tests.{eq-eqb, ne_eqb}
use Rattle.wire.specs.Numbers.{number, number_at, le}
use Rattle.wire.specs.Regions.{splice}
use Rattle.wire.specs.Parts.{sweep}
use Rattle.wire.proofs.NumberLaws.{length-le, le_same, number_at_one}
use Rattle.wire.proofs.RegionLaws.{splice_left, splice_right, splice_all, length_splice}
use Rattle.image.specs.Layout.{row_width, status_offset}
use Rattle.image.specs.Changes.{raised, ended}

-- ---- what is left

module _ (f : List ℕ → List ℕ) (w : ℕ) (s : List ℕ) (at : ℕ) where
  pub sweep_done : (n : ℕ) → n ≤ 0 → sweep f w s at n ≡ s
  unfolding sweep
  sweep_done zero h = refl
  sweep_done (suc n) h = absurd (omega arith)

  pub sweep_step : (n m : ℕ) → n ≡ m + 1 → sweep f w s at n ≡ sweep f w (splice s at (f (take w (drop at s)))) (at + w) m
  unfolding sweep
  sweep_step n m e = rw (e, add-one m)

  -- the same where t is what the first cell's change leaves
  pub sweep_on : (t : List ℕ) (n m : ℕ) → n ≡ m + 1 → t ≡ splice s at (f (take w (drop at s))) → sweep f w s at n ≡ sweep f w t (at + w) m
  sweep_on t n m e h = sweep_step n m e ∙ ap (λ (x : List ℕ). sweep f w x (at + w) m) (sym h)

-- ---- a piece of a region replaced

module _ (s : List ℕ) (at w : ℕ) (h : at + w ≤ length s) where
  apart : s ≡ take at s ++ (take w (drop at s) ++ drop w (drop at s))
  apart = sym (ap (λ (t : List ℕ). take at s ++ t) (take-append-drop w (drop at s)) ∙ take-append-drop at s)

  wide : length (take w (drop at s)) ≡ w
  wide = length-take-le w (drop at s) (omega (arith, length-drop at s))

  starts : at ≡ length (take at s) + 0
  starts = omega (arith, length-take-le at s (omega arith))

  region : (y : List ℕ) → length y ≡ w → splice s at y ≡ take at s ++ (y ++ drop w (drop at s))
  region y l =
      let a : List ℕ = take at s in
      let c : List ℕ = take w (drop at s) in
      let d : List ℕ = drop w (drop at s) in
      let lc = wide in
      ap (λ (t : List ℕ). splice t at y) apart
      ∙ splice_right a (c ++ d) at 0 y starts
      ∙ ap (λ (t : List ℕ). a ++ t) (splice_left c d 0 y (omega arith) ∙ ap (λ (t : List ℕ). t ++ d) (splice_all c y (l ∙ sym lc)))

  -- a region written as it was
  pub splice_same : splice s at (take w (drop at s)) ≡ s
  splice_same = region (take w (drop at s)) wide ∙ sym apart

  -- a region written with only a piece changed
  pub splice_piece : (j : ℕ) (x : List ℕ) → j + length x ≤ w → splice s at (splice (take w (drop at s)) j x) ≡ splice s (at + j) x
  splice_piece j x l =
      let a : List ℕ = take at s in
      let c : List ℕ = take w (drop at s) in
      let d : List ℕ = drop w (drop at s) in
      let lc = wide in
      let st = starts in
      region (splice c j x) (length_splice c j x (omega arith) ∙ lc)
      ∙ sym (ap (λ (t : List ℕ). splice t (at + j) x) apart
      ∙ splice_right a (c ++ d) (at + j) j x (omega arith)
      ∙ ap (λ (t : List ℕ). a ++ t) (splice_left c d j x (omega arith)))

-- ---- the steps

-- a number raised: v is written, which is so much more but for a multiple of 256^w
pub raised-step : (w : ℕ) (s : List ℕ) (at more v : ℕ) → v % 256 ^ w ≡ (number_at s at w + more) % 256 ^ w
    → splice s at (raised w more (take w (drop at s))) ≡ splice s at (le w v)
unfolding raised number_at
raised-step w s at more v e = ap (splice s at) (sym (le_same w v (number (take w (drop at s)) + more) e))

module _ (s : List ℕ) (at : ℕ) (h : at + row_width ≤ length s) where
  status_at : get_or (take row_width (drop at s)) status_offset 0 ≡ number_at s (at + status_offset) 1
  status_at =
      get_or-take row_width (drop at s) status_offset 0 (omega arith) ∙ get_or-drop at s status_offset 0 ∙ sym (number_at_one s (at + status_offset))

  -- a pending row is withdrawn
  pub ended_pending : number_at s (at + status_offset) 1 ≡ 1
      → splice s at (ended (take row_width (drop at s))) ≡ splice s (at + status_offset) (le 1 3)
  unfolding ended
  ended_pending e =
      rw (eq-eqb _ 1 (status_at ∙ e)) (splice_piece s at row_width h status_offset (le 1 3) (omega (arith, length-le 1 3)))

  -- any other stands
  pub ended_other : (number_at s (at + status_offset) 1 ≡ 1 → ⊥) → splice s at (ended (take row_width (drop at s))) ≡ s
  unfolding ended
  ended_other n = rw (ne_eqb _ 1 (λ e. n (sym status_at ∙ e))) (splice_same s at row_width h)
