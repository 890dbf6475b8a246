-- Each way out of the reader is what the record reads as: the first check that applies decides.
use Rattle.std.specs.Prelude.{if◌then◌else◌, Err, None, Some}
use Prim.Native.Nat.{ℕ, ◌<◌}
use mathlib.Core.Path.{◌≡◌, refl, ◌∙◌}
use mathlib.Core.List.{List, [], ◌∷◌}
use mathlib.Core.Bool.{Bool, true, false, not}
use native.Mathlib.Omega.{arith}
use lib.ListN.{length, get_or-eq_default}
use lib.Dec.{eqb}
use borrow.Author.Tests.{eqb-true, eq-eqb, ne_eqb, not-false}
use Rattle.wire.specs.Numbers.{number_at}
use Rattle.wire.proofs.NumberLaws.{number_at_one}
use Rattle.rules.specs.declared.Refusal.{Refusal}
use Rattle.rules.specs.declared.Refusal.TheVariants.{Unreadable, UnknownKind, WrongMap, WrongLength}
use Rattle.rules.specs.Basics.{total, counting, bit}
use Rattle.rules.specs.Verdicts.{Check, ◌⇒◌, applies, first_to_apply}
use Rattle.rules.specs.Requests.{is_single, wanted_map, wanted_length, map_of, offset, field_in, more, unreadable, map_check, read_checks, reading}
use Rattle.rules.proofs.Checks.Clearing.{spared}
use Rattle.rules.proofs.Checks.Passed.{readable}
use Rattle.rules.proofs.Records.RoundTrip.{Readable}

-- the first check decides, or is passed
pub check_here : (c : Check) (cs : List Check) (r : Refusal) → applies c ≡ Some r → first_to_apply (c ∷ cs) ≡ Some r
unfolding first_to_apply
check_here c cs r e = rw (e, first_to_apply)

pub check_next : (c : Check) (cs : List Check) → applies c ≡ None → first_to_apply (c ∷ cs) ≡ first_to_apply cs
unfolding first_to_apply
check_next c cs e = rw (e, first_to_apply)

-- the kind stands behind the map
pub kind_there : (s : List ℕ) → bit (map_of s) 0 ≡ true → field_in s 0 ≡ number_at s 2 1
unfolding field_in offset total counting
kind_there s h = rw h

-- bytes that end before the kind have none
pub kind_short : (s : List ℕ) → length s < 3 → field_in s 0 ≡ 0
unfolding field_in offset total counting
kind_short s h = go (bit (map_of s) 0)
  where
    go : (t : Bool) → (if t then number_at s 2 1 else 0) ≡ 0
    go true = number_at_one s 2 ∙ get_or-eq_default s 0 (omega arith)
    go false = refl

-- the kind stands in a record that is readable
pub kind_third : (s : List ℕ) → unreadable s ≡ false → field_in s 0 ≡ number_at s 2 1
kind_third s h = kind_there s (readable s h).1

-- the check of a map, of the map that was read and the one that is wanted
module _ (kind : ℕ) (s : List ℕ) {given wanted : ℕ} (g : given ≡ map_of s) (w : wanted ≡ wanted_map kind) where
  pub map_differs : (given ≡ wanted → ⊥) → applies (map_check kind s) ≡ Some (WrongMap (more wanted given) (more given wanted))
  map_differs o = let f : eqb given wanted ≡ false = ne_eqb given wanted o in rw (← g, ← w, f)

  pub map_agrees : given ≡ wanted → applies (map_check kind s) ≡ None
  map_agrees e = let f : eqb given wanted ≡ true = eq-eqb given wanted e in rw (← g, ← w, f)

pub reads_nothing : (s : List ℕ) → unreadable s ≡ true → Err Unreadable ≡ reading s
unfolding reading read_checks first_to_apply
reads_nothing s h = rw h

module _ (s : List ℕ) (k : ℕ) (h : unreadable s ≡ false) (e : k ≡ field_in s 0) where
  pub reads_no_kind : is_single k ≡ false → Err UnknownKind ≡ reading s
  unfolding reading read_checks first_to_apply
  reads_no_kind n = rw (← e, h, n)

  module _ (n : is_single k ≡ true) where
    past_kind : first_to_apply (read_checks s) ≡ first_to_apply (map_check k s ∷ (not (eqb (length s) (wanted_length k)) ⇒ WrongLength) ∷ [])
    unfolding read_checks
    past_kind = rw (← e) (check_next (unreadable s ⇒ Unreadable) _ (rw h) ∙ check_next (not (is_single k) ⇒ UnknownKind) _ (rw n))

    pub reads_other_map : {r : Refusal} → applies (map_check k s) ≡ Some r → Err r ≡ reading s
    unfolding reading
    reads_other_map o = rw (past_kind, check_here (map_check k s) _ _ o)

    module _ (m : applies (map_check k s) ≡ None) where
      pub reads_other_length : (length s ≡ wanted_length k → ⊥) → Err WrongLength ≡ reading s
      unfolding reading first_to_apply
      reads_other_length o = rw (past_kind, check_next (map_check k s) _ m, ne_eqb (length s) (wanted_length k) o)

      -- nothing is left to refuse
      pub reads_on : length s ≡ wanted_length k → Readable s
      reads_on l = record { known = rw (← e) n; mapped = rw (← e) (eqb-true _ _ (not-false _ (spared _ _ m))); sized = rw (← e) l }
