-- What a strip is refused for before the book is looked at, check by check: the first that applies decides.
use Rattle.std.specs.Prelude.{None, Some}
use Prim.Native.Nat.{ℕ, ◌+◌, ◌*◌, ◌<◌}
use mathlib.Core.Path.{◌≡◌, refl, ◌∙◌}
use mathlib.Core.List.{List, ◌∷◌}
use mathlib.Core.Bool.{Bool, true, false, not, ◌&&◌, ◌||◌}
use native.Mathlib.Omega.{arith}
use lib.ListN.{length, get_or-eq_default}
use lib.Dec.{eqb, leb, ltb}
use borrow.Author.Tests.{leb-true, leb-false, lt-ltb, le-ltb, eq-eqb, ne_eqb}
use Rattle.rules.specs.declared.Refusal.{Refusal}
use Rattle.rules.specs.declared.Refusal.TheVariants.{Unreadable, WrongLength, StripCount}
use Rattle.rules.specs.Basics.{within}
use Rattle.rules.specs.Limits.{most_strip}
use Rattle.rules.specs.Verdicts.{◌⇒◌, applies, first_to_apply}
use Rattle.rules.specs.Requests.{kind_number, strip, head_length, row_length, strip_count, strip_rows, unreadable, map_check, row_checks, strip_checks}
use Rattle.records.proofs.ReadingLaws.{check_here, check_next}
use Rattle.strip_rows.specs.Rows.{rows_from}

-- bytes that end before the count are no strip
pub head_short : (s : List ℕ) → length s < head_length → length s ≡ head_length + row_length * strip_count s → ⊥
head_short s h e = omega (arith, get_or-eq_default s 0 {n = 3} (omega arith))

below : (a b : ℕ) → ltb a b ≡ not (leb b a)
below a b = go (leb b a) refl
  where
    go : (t : Bool) → leb b a ≡ t → ltb a b ≡ not t
    go true e = le-ltb a b (leb-true b a e)
    go false e = lt-ltb a b (leb-false b a e)

-- a count outside its bounds
pub count_outside : (n : ℕ) → (ltb n 1 || ltb most_strip n) ≡ not (within 1 n most_strip)
count_outside n = rw (below n 1, below most_strip n) (go (leb 1 n) (leb n most_strip))
  where
    go : (s t : Bool) → (not s || not t) ≡ not (s && t)
    go true t = refl
    go false t = refl

module _ (s : List ℕ) where
  pub fails_2 : unreadable s ≡ true → first_to_apply (strip_checks s) ≡ Some Unreadable
  unfolding strip_checks
  fails_2 h = check_here (unreadable s ⇒ Unreadable) _ Unreadable (rw h)

  module _ (h : unreadable s ≡ false) where
    pub fails_4 : (r : Refusal) → applies (map_check (kind_number strip) s) ≡ Some r → first_to_apply (strip_checks s) ≡ Some r
    unfolding strip_checks
    fails_4 r e = check_next (unreadable s ⇒ Unreadable) _ (rw h) ∙ check_here (map_check (kind_number strip) s) _ r e

    module _ (m : applies (map_check (kind_number strip) s) ≡ None) where
      past_4 : first_to_apply (strip_checks s)
          ≡ first_to_apply ((not (eqb (length s) (head_length + row_length * strip_count s)) ⇒ WrongLength)
          ∷ (not (within 1 (strip_count s) most_strip) ⇒ StripCount) ∷ row_checks (strip_rows s))
      unfolding strip_checks
      past_4 = check_next (unreadable s ⇒ Unreadable) _ (rw h) ∙ check_next (map_check (kind_number strip) s) _ m

      pub fails_5 : (length s ≡ head_length + row_length * strip_count s → ⊥) → first_to_apply (strip_checks s) ≡ Some WrongLength
      fails_5 o = past_4 ∙ check_here _ _ WrongLength (rw (ne_eqb (length s) (head_length + row_length * strip_count s) o))

      module _ (l : length s ≡ head_length + row_length * strip_count s) where
        past_5 : first_to_apply (strip_checks s)
            ≡ first_to_apply ((not (within 1 (strip_count s) most_strip) ⇒ StripCount) ∷ row_checks (strip_rows s))
        past_5 = past_4 ∙ check_next _ _ (rw (eq-eqb (length s) (head_length + row_length * strip_count s) l))

        pub fails_21 : within 1 (strip_count s) most_strip ≡ false → first_to_apply (strip_checks s) ≡ Some StripCount
        fails_21 e = past_5 ∙ check_here (not (within 1 (strip_count s) most_strip) ⇒ StripCount) _ StripCount (rw e)

        -- only its rows are left
        pub rows_decide : within 1 (strip_count s) most_strip ≡ true
            → first_to_apply (strip_checks s) ≡ first_to_apply (row_checks (rows_from s head_length (strip_count s)))
        unfolding strip_rows rows_from
        rows_decide e = past_5 ∙ check_next (not (within 1 (strip_count s) most_strip) ⇒ StripCount) _ (rw e)
