-- Cells of the table of sums: a range raised by a row's quantity gives the row's share to each account hour, and to no other.
use Rattle.std.specs.Prelude.{if◌then◌else◌}
use Prim.Native.Nat.{ℕ, zero, suc, ◌+◌, ◌-◌, ◌*◌, ◌≤◌, ◌<◌}
use mathlib.Core.Path.{◌≡◌, refl, sym, ap, ◌∙◌}
use mathlib.Core.List.{List}
use mathlib.Core.Bool.{Bool, true, false, ◌&&◌}
use mathlib.Core.Logic.{⊎_elim}
use native.Mathlib.Omega.{arith}
use lib.ListN.{length, get_or, set, replicate}
use lib.Seq.{get_or-set_other, get_or-set_same}
use lib.Dec.{eqb}
use borrow.Author.Tests.{eqb-true, eq-eqb}
use Rattle.rules.specs.Basics.{within}
use Rattle.rules.specs.Limits.{most_accounts}
use Rattle.rules.proofs.Basics.Tests.{and_both, within_true}
use Rattle.rules.proofs.Basics.Differences.{lt_or_ge}
use Rattle.rules.proofs.Basics.Products.{stride}
use Rattle.image.specs.Tables.{slots, slot_of, place_of, cell_of, InTable, Room, Raised}

-- ---- a range, cell by cell

pub raised_none : (t : List ℕ) (at n q : ℕ) → n ≤ 0 → Raised t t at n q
raised_none t at n q h =
    record { below = λ k l. refl; inside = λ k l u. absurd (omega arith); above = λ k l. refl }

-- the cell past the range is raised too
pub raised-next : (before after : List ℕ) (at n m k q : ℕ) → k ≡ at + n → m ≡ n + 1 → k < length after → Raised before after at n q
    → Raised before (set after k (get_or after k 0 + q)) at m q
raised-next before after at n m k q e d h r =
    record {
      below = λ j l. get_or-set_other after k j _ 0 (λ z. omega arith) ∙ r.below j l;
      inside = λ j l u.
          ⊎_elim
          (λ (w : j < k). get_or-set_other after k j _ 0 (λ z. omega arith) ∙ r.inside j l (omega arith))
          (λ (w : k ≤ j).
          let same : j ≡ k = omega arith in
          rw same (get_or-set_same after k _ 0 h ∙ ap (λ (x : ℕ). x + q) (r.above k (omega arith))))
          (lt_or_ge j k);
      above = λ j l. get_or-set_other after k j _ 0 (λ z. omega arith) ∙ r.above j (omega arith);
    }

-- no cell is raised by more
pub raised_most : (before after : List ℕ) (at n q : ℕ) → Raised before after at n q → (k : ℕ) → get_or after k 0 ≤ get_or before k 0 + q
raised_most before after at n q r k =
    ⊎_elim
    (λ (w : k < at). omega (arith, r.below k w))
    (λ (w : at ≤ k).
    ⊎_elim
    (λ (v : k < at + n). omega (arith, r.inside k w v))
    (λ (v : at + n ≤ k). omega (arith, r.above k v))
    (lt_or_ge k (at + n)))
    (lt_or_ge k at)

-- the cells past the range have the room that they had
pub room_past : (before after : List ℕ) (at n q from : ℕ) → Raised before after at n q → at + n ≤ from → Room before 0 q → Room after from q
room_past before after at n q from r h room k l = omega (arith, r.above k (omega arith), room k (omega arith))

-- ---- slots of `top` cells each

-- a cell that is not past another is in a slot that is not past the other's
pub slot_order : (top s t i j : ℕ) → j < top → top * s + i ≤ top * t + j → s ≤ t
slot_order top s t i j h l = ⊎_elim (λ (w : t < s). absurd (omega (arith, stride top t s w))) (λ w. w) (lt_or_ge t s)

-- all of an account's places are below those that all accounts have, and its cells below those of the table
pub place_fits : (top a h : ℕ) → InTable top a h → place_of top a h + top < most_accounts * top + h
place_fits top a h i = omega (arith, i, stride top (a - 1) most_accounts (omega arith))

pub cell_fits : (top lane a h : ℕ) → lane ≤ 3 → InTable top a h → cell_of top lane a h + top < slots * top + h
cell_fits top lane a h l i = omega (arith, i, stride top (slot_of lane a) slots (omega arith))

-- a cell of a table of zeros
pub zero_at : (n k : ℕ) → ◌≡◌ {A = ℕ} (get_or (replicate n 0) k 0) 0
zero_at zero k = refl
zero_at (suc n) zero = refl
zero_at (suc n) (suc k) = zero_at n k

-- ---- the cells of a row's hours

same_by : (a b : ℕ) → (a < b → ⊥) → (b < a → ⊥) → a ≡ b
same_by a b f g =
    ⊎_elim
    (λ (w : a < b). absurd (f w))
    (λ (w : b ≤ a). ⊎_elim (λ (v : b < a). absurd (g v)) (λ (v : a ≤ b). omega arith) (lt_or_ge b a))
    (lt_or_ge a b)

-- the cell of an account hour is one of those of a row's hours: the same lane, the hour is the row's, the same account
abbrev pub hits : ℕ → ℕ → ℕ → ℕ → ℕ → ℕ → ℕ → Bool
hits lane account first last other a h = eqb lane other && within first h last && eqb account a

module _ (top lane account first last other a h : ℕ) (low : InTable top account first) (high : InTable top account last) (order : first ≤ last) (i : InTable top a h) where
  hits_inside : cell_of top lane account first ≤ cell_of top other a h → cell_of top other a h < cell_of top lane account first + (last - first + 1)
      → hits lane account first last other a h ≡ true
  hits_inside l u =
      let x = slot_order top (slot_of lane account) (slot_of other a) (first - 1) (h - 1) (omega arith) l in
      let y = slot_order top (slot_of other a) (slot_of lane account) (h - 1) (last - 1) (omega arith) (omega arith) in
      let e1 : lane ≡ other = same_by lane other (λ w. omega arith) (λ w. omega arith) in
      let e2 : account ≡ a = same_by account a (λ w. omega arith) (λ w. omega arith) in
      let e : top * slot_of lane account ≡ top * slot_of other a = rw (e1, e2) in
      (and_both _ _).1 ((and_both _ _).1 (eq-eqb lane other e1, (within_true first h last).1 (omega arith, omega arith)), eq-eqb account a e2)

  inside_hits : hits lane account first last other a h ≡ true
      → (cell_of top lane account first ≤ cell_of top other a h) × (cell_of top other a h < cell_of top lane account first + (last - first + 1))
  inside_hits e =
      let p = (and_both (eqb lane other && within first h last) (eqb account a)).0 e in
      let q = (and_both (eqb lane other) (within first h last)).0 p.0 in
      let e1 : lane ≡ other = eqb-true lane other q.0 in
      let e2 : account ≡ a = eqb-true account a p.1 in
      let w = (within_true first h last).0 q.1 in
      let e : top * slot_of lane account ≡ top * slot_of other a = rw (e1, e2) in
      (omega arith, omega arith)

  -- what raising them does to the cell of any account hour
  pub raised_cell : (before after : List ℕ) (q : ℕ) → Raised before after (cell_of top lane account first) (last - first + 1) q
      → get_or after (cell_of top other a h) 0 ≡ get_or before (cell_of top other a h) 0 + (if hits lane account first last other a h then q else 0)
  raised_cell before after q r = go (hits lane account first last other a h) refl
    where
      go : (t : Bool) → hits lane account first last other a h ≡ t → get_or after (cell_of top other a h) 0 ≡ get_or before (cell_of top other a h) 0 + (if t then q else 0)
      go true e = let w = inside_hits e in r.inside (cell_of top other a h) w.0 w.1
      go false e =
          ⊎_elim
          (λ (w : cell_of top other a h < cell_of top lane account first). r.below (cell_of top other a h) w ∙ omega arith)
          (λ (w : cell_of top lane account first ≤ cell_of top other a h).
          ⊎_elim
          (λ (v : cell_of top other a h < cell_of top lane account first + (last - first + 1)).
          let z : true ≡ false = sym (hits_inside w v) ∙ e in
          let y : ◌≡◌ {A = ℕ} 0 1 = cc in
          absurd (omega arith))
          (λ (v : cell_of top lane account first + (last - first + 1) ≤ cell_of top other a h). r.above (cell_of top other a h) v ∙ omega arith)
          (lt_or_ge (cell_of top other a h) (cell_of top lane account first + (last - first + 1))))
          (lt_or_ge (cell_of top other a h) (cell_of top lane account first))
