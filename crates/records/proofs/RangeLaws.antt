-- The checks of a request's fields, bit by bit.
use Rattle.std.specs.Prelude.{if◌then◌else◌, Err, Ok, Option, None, Some}
use Prim.Native.Nat.{ℕ, ◌<◌}
use mathlib.Core.Path.{◌≡◌, refl, sym, ◌∙◌, ap}
use mathlib.Core.List.{List, [], ◌∷◌}
use mathlib.Core.Bool.{Bool, true, false, not, ◌&&◌, and-false}
use native.Mathlib.Omega.{arith}
use lib.ListN.{get_or}
use lib.Dec.{eqb}
use Rattle.rules.specs.declared.Counts.{Counts}
use Rattle.rules.specs.declared.Request.{Request}
use Rattle.rules.specs.declared.Refusal.{Refusal}
use Rattle.rules.specs.declared.Refusal.TheVariants.{OutOfRange, SameAccount}
use Rattle.rules.specs.Basics.{find, counting, bit}
use Rattle.rules.specs.Verdicts.{Check, applies, ◌⇒◌, ◌⇒↑◌, first_to_apply, checked, or_else, Checked}
use Rattle.rules.specs.Requests.{wanted_map, is_kind, bits, in_range, faulty_field, faulty_bit, same_accounts, range_checks}
use Rattle.records.proofs.KindLaws.{wanted_kind}

-- the fields of a map among these bits, lowest first, and then what follows
abbrev pub along : ℕ → List Bool → List ℕ → Checked → Checked
along m good [] z = z
along m good (k ∷ ks) z = if bit m k && not (get_or good k true) then Err (OutOfRange k) else along m good ks z

one_more : (t : Bool) (k : ℕ) (o : Option ℕ) (z w : Checked) → or_else (applies (o ⇒↑ OutOfRange)) z ≡ w
    → or_else (applies (elim t [ true ↦ Some k | false ↦ o ] ⇒↑ OutOfRange)) z ≡ (if t then Err (OutOfRange k) else w)
one_more true k o z w e = refl
one_more false k o z w e = e

-- the search for the lowest bit at fault goes along the bits of the wanted map
found : (n : Counts) (q : Request) (ks : List ℕ) (z : Checked)
    → or_else (applies (find (faulty_field n q) ks ⇒↑ OutOfRange)) z ≡ along (wanted_map q.kind) (in_range n q) ks z
unfolding find faulty_field
found n q [] z = refl
found n q (k ∷ ks) z = one_more (faulty_field n q k) k (find (faulty_field n q) ks) z _ (found n q ks z)

-- 6, or else what follows
first_then : (o : Option ℕ) (c : Check) → checked (first_to_apply ((o ⇒↑ OutOfRange) ∷ c ∷ [])) ≡ or_else (applies (o ⇒↑ OutOfRange)) (checked (first_to_apply (c ∷ [])))
unfolding first_to_apply
first_then None c = refl
first_then (Some k) c = refl

same : (q : Request) → checked (first_to_apply ((same_accounts q ⇒ SameAccount) ∷ [])) ≡ (if same_accounts q then Err SameAccount else (Ok tt))
unfolding first_to_apply
same q = go (same_accounts q)
  where
    go : (t : Bool) → checked (first_to_apply ((t ⇒ SameAccount) ∷ [])) ≡ (if t then Err SameAccount else (Ok tt))
    go true = refl
    go false = refl

-- the fields that a map wants, lowest first, and then what follows; the kind itself is in range
pub fields_then : (n : Counts) (q : Request) (m : ℕ) (z : Checked) → wanted_map q.kind ≡ m → 0 < m
    → or_else (applies (faulty_bit n q ⇒↑ OutOfRange)) z ≡ along m (in_range n q) (counting 12 1) z
unfolding faulty_bit bits counting in_range
fields_then n q m z e h =
    let kind : is_kind q.kind ≡ true = wanted_kind q.kind (omega arith) in
    rw (← e) (found n q bits z ∙ rw (kind, and-false (bit (wanted_map q.kind) 0)))

-- and nothing after them
pub fields_alone : (n : Counts) (q : Request) (m : ℕ) → wanted_map q.kind ≡ m → 0 < m
    → checked (applies (faulty_bit n q ⇒↑ OutOfRange)) ≡ along m (in_range n q) (counting 12 1) (Ok tt)
fields_alone n q m e h = alone (faulty_bit n q) ∙ fields_then n q m (Ok tt) e h
  where
    alone : (o : Option ℕ) → checked (applies (o ⇒↑ OutOfRange)) ≡ or_else (applies (o ⇒↑ OutOfRange)) (Ok tt)
    alone None = refl
    alone (Some k) = refl

-- then both accounts
pub fields_and_accounts : (n : Counts) (q : Request)
    → checked (first_to_apply (range_checks n q)) ≡ or_else (applies (faulty_bit n q ⇒↑ OutOfRange)) (if same_accounts q then Err SameAccount else (Ok tt))
fields_and_accounts n q =
    first_then (faulty_bit n q) (same_accounts q ⇒ SameAccount) ∙ ap (or_else (applies (faulty_bit n q ⇒↑ OutOfRange))) (same q)

pub ranges_of : (n : Counts) (q : Request) (m : ℕ) → wanted_map q.kind ≡ m → 0 < m
    → checked (first_to_apply (range_checks n q)) ≡ along m (in_range n q) (counting 12 1) (if bit m 2 && eqb q.account q.other then Err SameAccount else (Ok tt))
unfolding same_accounts
ranges_of n q m e h = fields_and_accounts n q ∙ fields_then n q m _ e h ∙ rw e

-- where no field is wanted, nothing is out of range
pub ranges_none : (n : Counts) (q : Request) → wanted_map q.kind ≡ 0 → checked (first_to_apply (range_checks n q)) ≡ (Ok tt)
unfolding faulty_bit same_accounts bits counting bit
ranges_none n q e = fields_and_accounts n q ∙ found n q bits _ ∙ rw e

-- nor where the kind alone is
pub ranges_kind_alone : (n : Counts) (q : Request) → wanted_map q.kind ≡ 1 → checked (first_to_apply (range_checks n q)) ≡ (Ok tt)
unfolding counting bit
ranges_kind_alone n q e = ranges_of n q 1 e (omega arith)

-- what the check of one test says of the test
pub test_says : (t : Bool) (r : Refusal) → checked (applies (t ⇒ r)) ≡ (if t then Err r else Ok tt)
test_says true r = refl
test_says false r = refl

-- what is left of a row of checks once its first part is known
or_clear : {u : Unit {0}} {f : Checked} (o : Option Refusal) (z : Checked) → f ≡ checked o → f ≡ Ok u → or_else o z ≡ z
or_clear None z says c = refl
or_clear (Some r) z says c = cc

or_refused : {d : Refusal} {f : Checked} (o : Option Refusal) (z : Checked) → f ≡ checked o → f ≡ Err d → or_else o z ≡ Err d
or_refused None z says c = cc
or_refused (Some r) z says c = cc

-- the fields decide where one of them is out of range, and else the accounts do
module _ (n : Counts) (q : Request) {f : Checked} (says : f ≡ checked (applies (faulty_bit n q ⇒↑ OutOfRange))) where
  pub fields_refuse : {d : Refusal} → f ≡ Err d → Err d ≡ checked (first_to_apply (range_checks n q))
  fields_refuse c = sym (fields_and_accounts n q ∙ or_refused (applies (faulty_bit n q ⇒↑ OutOfRange)) _ says c)

  pub fields_clear : {u : Unit {0}} → f ≡ Ok u → checked (applies (same_accounts q ⇒ SameAccount)) ≡ checked (first_to_apply (range_checks n q))
  fields_clear c = test_says _ _ ∙ sym (fields_and_accounts n q ∙ or_clear (applies (faulty_bit n q ⇒↑ OutOfRange)) _ says c)

module _ {f : Checked} (t : Bool) (r : Refusal) (says : f ≡ checked (applies (t ⇒ r))) where
  pub test_fails : {u : Unit {0}} → f ≡ Ok u → t ≡ false
  test_fails c = cleared t (sym says ∙ c)
    where
      cleared : {u : Unit {0}} (t : Bool) → checked (applies (t ⇒ r)) ≡ Ok u → t ≡ false
      cleared false e = refl
      cleared true e = cc

  pub test_holds : {d : Refusal} → f ≡ Err d → (t ≡ true) × (d ≡ r)
  test_holds c = refused t (sym says ∙ c)
    where
      refused : {d : Refusal} (t : Bool) → checked (applies (t ⇒ r)) ≡ Err d → (t ≡ true) × (d ≡ r)
      refused true e = (refl, cc)
      refused false e = cc
