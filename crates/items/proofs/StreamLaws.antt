-- What stands at an offset is the first of the items from there on, and an item's record and prices are its two parts.
use Prim.Native.Nat.{ℕ, zero, suc, ◌+◌, ◌-◌, ◌*◌, ◌≤◌, ◌<◌}
use mathlib.Core.Path.{◌≡◌, refl, sym, ap, ◌∙◌}
use mathlib.Core.List.{List, [], ◌∷◌}
use mathlib.Core.Bool.{Bool, true, false}
use native.Mathlib.Omega.{arith}
use lib.ListN.{length, get_or, take, drop, replicate, length-drop, drop_of_length-le, get_or-eq_default}
use lib.Seq.{take-length, drop-length, drop-drop, drop-cons}
use lib.Dec.{eqb, leb}
use borrow.Author.Tests.{leb-true, leb-false, eqb-true, eqb-false, eq-eqb, ne_eqb, le-leb, lt-leb}
use Rattle.wire.specs.Numbers.{number, number_at}
use Rattle.rules.specs.Limits.{most_schedules, most_operators}
use Rattle.rules.specs.Replay.{Item, whole, cut_short, items_within, items, call_of}
use Rattle.items.specs.declared.Found.{Found}
use Rattle.items.specs.declared.Found.TheVariants.{Whole, Cut, End}
use Rattle.items.specs.Stream.{found_at, past_found, record_length}

-- ---- items

-- the first item, where its bytes are there and where they are not
within-whole : (n a b : ℕ) (s : List ℕ) → number (a ∷ b ∷ []) ≤ length s
    → items_within (suc n) (a ∷ b ∷ s) ≡ whole (take (number (a ∷ b ∷ [])) s) ∷ items_within n (drop (number (a ∷ b ∷ [])) s)
unfolding items_within
within-whole n a b s h = rw (le-leb (number (a ∷ b ∷ [])) (length s) h, items_within)

within-cut : (n a b : ℕ) (s : List ℕ) → length s < number (a ∷ b ∷ []) → items_within (suc n) (a ∷ b ∷ s) ≡ cut_short ∷ []
unfolding items_within
within-cut n a b s h = rw (lt-leb (number (a ∷ b ∷ [])) (length s) h, items_within)

-- as many steps as there are bytes are enough
pub steps_enough : (n m : ℕ) (s : List ℕ) → length s ≤ n → length s ≤ m → items_within n s ≡ items_within m s
unfolding items_within
steps_enough zero zero [] h k = refl
steps_enough zero (suc m) [] h k = refl
steps_enough (suc n) zero [] h k = refl
steps_enough (suc n) (suc m) [] h k = refl
steps_enough zero m (a ∷ s) h k = absurd (omega arith)
steps_enough (suc n) zero (a ∷ s) h k = absurd (omega arith)
steps_enough (suc n) (suc m) (a ∷ []) h k = refl
steps_enough (suc n) (suc m) (a ∷ b ∷ s) h k =
    let size : ℕ = number (a ∷ b ∷ []) in
    let l = length-drop size s in
    go (leb size (length s)) refl (steps_enough n m (drop size s) (omega arith) (omega arith))
  where
    go : (t : Bool) → leb (number (a ∷ b ∷ [])) (length s) ≡ t
        → items_within n (drop (number (a ∷ b ∷ [])) s) ≡ items_within m (drop (number (a ∷ b ∷ [])) s)
        → items_within (suc n) (a ∷ b ∷ s) ≡ items_within (suc m) (a ∷ b ∷ s)
    go true e same =
        let f = leb-true _ (length s) e in
        within-whole n a b s f
        ∙ ap (λ (is : List Item). whole (take (number (a ∷ b ∷ [])) s) ∷ is) same
        ∙ sym (within-whole m a b s f)
    go false e same = let f = leb-false _ (length s) e in within-cut n a b s f ∙ sym (within-cut m a b s f)

-- the bytes from an offset on that two bytes and more stand behind
two_bytes : (s : List ℕ) (at : ℕ) → at + 2 ≤ length s → drop at s ≡ get_or s at 0 ∷ get_or s (suc at) 0 ∷ drop (at + 2) s
two_bytes s at h =
    let e : suc (suc at) ≡ at + 2 = omega arith in
    drop-cons s at 0 (omega arith)
    ∙ ap (λ (l : List ℕ). get_or s at 0 ∷ l) (drop-cons s (suc at) 0 (omega arith))
    ∙ rw e

-- the length that stands there
length_there : (s : List ℕ) (at : ℕ) → at + 2 ≤ length s → number (get_or s at 0 ∷ get_or s (suc at) 0 ∷ []) ≡ number_at s at 2
unfolding number_at
length_there s at h = rw (two_bytes s at h)

-- ---- what stands at an offset

-- the items that an offset leads to
unfoldable pub items_of : List ℕ → Found → List Item
items_of s End = []
items_of s Cut = cut_short ∷ []
items_of s (Whole from end) = whole (take (end - from) (drop from s)) ∷ items (drop end s)

-- past the end there is nothing
items_end : (s : List ℕ) (at : ℕ) → length s ≤ at → items (drop at s) ≡ []
unfolding items items_within
items_end s at h = rw (drop_of_length-le s h)

-- a length of one byte is cut short
items_one : (s : List ℕ) (at : ℕ) → at + 1 ≡ length s → items (drop at s) ≡ cut_short ∷ []
unfolding items items_within
items_one s at h =
    let e : drop (suc at) s ≡ [] = drop_of_length-le s {i = suc at} (omega arith) in
    rw (drop-cons s at 0 (omega arith), e)

module _ (s : List ℕ) (at : ℕ) (two : at + 2 ≤ length s) where
  items_cut : length s < at + 2 + number_at s at 2 → items (drop at s) ≡ cut_short ∷ []
  unfolding items
  items_cut h =
      let l = length-drop (at + 2) s in
      let n = length_there s at two in
      rw (two_bytes s at two) (within-cut _ (get_or s at 0) (get_or s (suc at) 0) (drop (at + 2) s) (omega arith))

  items_whole : at + 2 + number_at s at 2 ≤ length s
      → items (drop at s) ≡ whole (take (number_at s at 2) (drop (at + 2) s)) ∷ items (drop (at + 2 + number_at s at 2) s)
  unfolding items
  items_whole h =
      let rest : List ℕ = drop (at + 2) s in
      let l = length-drop (at + 2) s in
      let n = length_there s at two in
      let m = length-drop (number_at s at 2) rest in
      rw (two_bytes s at two) (within-whole _ (get_or s at 0) (get_or s (suc at) 0) rest (omega arith)
      ∙ rw (n, ← drop-drop (number_at s at 2) (at + 2) s) (ap (λ (is : List Item). whole (take (number_at s at 2) rest) ∷ is) (steps_enough _ _ (drop (number_at s at 2) rest) (omega arith) (omega arith))))

-- an item that is not all there is cut short, in its length or in its bytes
items_short : (s : List ℕ) (at : ℕ) → at < length s → length s < at + 2 + number_at s at 2 → items (drop at s) ≡ cut_short ∷ []
items_short s at h k = go (leb (at + 2) (length s)) refl
  where
    go : (t : Bool) → leb (at + 2) (length s) ≡ t → items (drop at s) ≡ cut_short ∷ []
    go true e = items_cut s at (leb-true (at + 2) (length s) e) k
    go false e = let l = leb-false (at + 2) (length s) e in items_one s at (omega arith)

-- ---- the definition of the code, by its tests

pub found_end : (s : List ℕ) (at : ℕ) → length s ≤ at → found_at s at ≡ End
unfolding found_at
found_end s at h = rw (le-leb (length s) at h)

pub found_cut : (s : List ℕ) (at : ℕ) → at < length s → length s < at + 2 + number_at s at 2 → found_at s at ≡ Cut
unfolding found_at
found_cut s at h k = rw (lt-leb (length s) at h, lt-leb (at + 2 + number_at s at 2) (length s) k)

pub found_whole : (s : List ℕ) (at : ℕ) → at + 2 + number_at s at 2 ≤ length s → found_at s at ≡ Whole (at + 2) (at + 2 + number_at s at 2)
unfolding found_at
found_whole s at h = rw (lt-leb (length s) at (omega arith), le-leb (at + 2 + number_at s at 2) (length s) h)

-- where a whole item stands
pub record Within (s : List ℕ) (at from end : ℕ) : Type 0 where
  pub after_length : from ≡ at + 2
  pub in_order : from ≤ end
  pub in_stream : end ≤ length s

module _ (s : List ℕ) (at : ℕ) where
  -- the items from an offset on are those that what stands there leads to
  pub items_found : items (drop at s) ≡ items_of s (found_at s at)
  unfolding items_of
  items_found = go (leb (length s) at) refl (leb (at + 2 + number_at s at 2) (length s)) refl
    where
      go : (t : Bool) → leb (length s) at ≡ t → (u : Bool) → leb (at + 2 + number_at s at 2) (length s) ≡ u
          → items (drop at s) ≡ items_of s (found_at s at)
      go true e u f = let h = leb-true (length s) at e in rw (found_end s at h) (items_end s at h)
      go false e true f =
          let h = leb-true _ (length s) f in
          let n : at + 2 + number_at s at 2 - (at + 2) ≡ number_at s at 2 = omega arith in
          rw (found_whole s at h, n) (items_whole s at (omega arith) h)
      go false e false f =
          let h = leb-false (length s) at e in
          let k = leb-false _ (length s) f in
          rw (found_cut s at h k) (items_short s at h k)

  -- past a whole item the walk goes on with the items behind it
  pub items_past : (from end : ℕ) → found_at s at ≡ Whole from end
      → items (drop at s) ≡ whole (take (end - from) (drop from s)) ∷ items (drop (past_found (found_at s at) at) s)
  unfolding items_of past_found
  items_past from end w = rw w (items_found ∙ ap (items_of s) w)

  -- a whole item lies within the stream
  pub found_within : (from end : ℕ) → found_at s at ≡ Whole from end → Within s at from end
  found_within from end w = go (leb (length s) at) refl (leb (at + 2 + number_at s at 2) (length s)) refl
    where
      go : (t : Bool) → leb (length s) at ≡ t → (u : Bool) → leb (at + 2 + number_at s at 2) (length s) ≡ u → Within s at from end
      go true e u f =
          let p = found_end s at (leb-true (length s) at e) in let z : ◌≡◌ {A = ℕ} 0 1 = cc in absurd (omega arith)
      go false e true f =
          let h = leb-true _ (length s) f in
          let p = found_whole s at h in
          let a : from ≡ at + 2 = cc in
          let b : end ≡ at + 2 + number_at s at 2 = cc in
          record { after_length = a; in_order = omega arith; in_stream = omega arith }
      go false e false f =
          let p = found_cut s at (leb-false (length s) at e) (leb-false _ (length s) f) in
          let z : ◌≡◌ {A = ℕ} 0 1 = cc in
          absurd (omega arith)

-- ---- an item's record and its prices

pub record_settle : (s : List ℕ) → get_or s 2 0 ≡ 10 → record_length s ≡ 3
unfolding record_length
record_settle s h = rw (eq-eqb (get_or s 2 0) 10 h)

pub record_whole : (s : List ℕ) → (get_or s 2 0 ≡ 10 → ⊥) → record_length s ≡ length s
unfolding record_length
record_whole s h = rw (ne_eqb (get_or s 2 0) 10 h)

-- an item without a third byte is a record
pub record_short : (s : List ℕ) → length s < 3 → record_length s ≡ length s
record_short s h = let e : get_or s 2 0 ≡ 0 = get_or-eq_default s 0 {n = 2} (omega arith) in record_whole s (λ z. omega arith)

module _ (s : List ℕ) where
  -- the record is a part of the item
  pub record_within : record_length s ≤ length s
  record_within = go (eqb (get_or s 2 0) 10) refl (leb 3 (length s)) refl
    where
      go : (t : Bool) → eqb (get_or s 2 0) 10 ≡ t → (u : Bool) → leb 3 (length s) ≡ u → record_length s ≤ length s
      go t e false f = let l = leb-false 3 (length s) f in omega (arith, record_short s (omega arith))
      go true e true f = let l = leb-true 3 (length s) f in omega (arith, record_settle s (eqb-true (get_or s 2 0) 10 e))
      go false e true f = omega (arith, record_whole s (eqb-false (get_or s 2 0) 10 e))

  -- the two parts are the call's record and its prices
  pub call_parts : call_of s ≡
      record {
        bytes = take (record_length s) s;
        prices = drop (record_length s) s;
        results = replicate most_schedules 0;
        balances = replicate (8 * most_operators) 0;
      }
  unfolding record_length call_of
  call_parts = go (eqb (get_or s 2 0) 10) refl
    where
      go : (t : Bool) → eqb (get_or s 2 0) 10 ≡ t → call_of s ≡
          record {
            bytes = take (record_length s) s;
            prices = drop (record_length s) s;
            results = replicate most_schedules 0;
            balances = replicate (8 * most_operators) 0;
          }
      go true e = rw e
      go false e = rw (e, take-length, drop-length)

  pub record_bytes : take (record_length s) s ≡ (call_of s).bytes
  record_bytes = rw call_parts

  pub record_prices : drop (record_length s) s ≡ (call_of s).prices
  record_prices = rw call_parts
