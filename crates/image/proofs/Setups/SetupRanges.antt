-- The values of a set-up are in range exactly where none is found at fault: entry by entry, whatever their offsets.
use Rattle.std.specs.Prelude.{if◌then◌else◌, option_map, Option, None, Some}
use Prim.Native.Nat.{ℕ, ◌+◌, ◌≤◌}
use mathlib.Core.Path.{◌≡◌, refl, ap}
use mathlib.Core.List.{List, [], ◌∷◌, ◌++◌, map}
use mathlib.Core.Bool.{true, not, ◌||◌}
use native.Mathlib.Omega.{arith}
use lib.ListN.{length, replicate}
use lib.Dec.{eqb}
use borrow.Author.Tests.{leb-true, le-leb, not-false}
use Rattle.units.specs.declared.Kwh.{Kwh}
use Rattle.units.specs.declared.Cents.{Cents}
use Rattle.units.specs.declared.CentsPerMwh.{CentsPerMwh}
use Rattle.units.specs.Units.{kwh, cents}
use Rattle.rules.specs.declared.Counts.{Counts}
use Rattle.rules.specs.declared.Operator.{Operator}
use Rattle.rules.specs.declared.Point.{Point}
use Rattle.rules.specs.Basics.{nth, within, Each, nil, cons}
use Rattle.rules.specs.Limits.{most_energy, most_price, most_guarantee, thousand}
use Rattle.rules.specs.Books.{Account, Setup, no_account, counts_of, operator_count, hour_of, lower_at, upper_at}
use Rattle.rules.specs.Opening.{Value, operators_of, operators_offset, accounts_offset, points_offset, estimates_offset, upper_offset, values_of, estimate_values, operator_values, margin_values, account_values, point_values, values, faulty_offset, price_width, operator_entry, margin_width, account_entry, point_entry}
use Rattle.rules.proofs.Basics.Tests.{and_both, within_true}
use Rattle.rules.proofs.Basics.Searches.{find_none, none_find, each_nth_or, each_append, each_map}

-- ---- each of two lists side by side

pub each_split {ℓ κ} : {A : Type ℓ} {P : A → Type κ} (xs ys : List A) → Each P (xs ++ ys) → Each P xs × Each P ys
each_split [] ys e = (nil, e)
each_split (x ∷ xs) ys (cons p e) = let w = each_split xs ys e in (cons p w.0, w.1)

-- ---- the values of entries

abbrev Good : Value → Type 0
Good v = v.1 ≡ true

module _ {A : Type 0} {P : A → Type 0} (w : ℕ) (say : ℕ → A → List Value) where
  values_each : ((at : ℕ) (x : A) → Each Good (say at x) → P x) → (at : ℕ) (xs : List A) → Each Good (values_of w say at xs) → Each P xs
  unfolding values_of
  values_each f at [] e = nil
  values_each f at (x ∷ xs) e = let s = each_split (say at x) (values_of w say (at + w) xs) e in cons (f at x s.0) (values_each f (at + w) xs s.1)

  each_values : ((at : ℕ) (x : A) → P x → Each Good (say at x)) → (at : ℕ) {xs : List A} → Each P xs → Each Good (values_of w say at xs)
  unfolding values_of
  each_values f at nil = nil
  each_values f at (cons {x = x} p e) = each_append (f at x p) (each_values f (at + w) e)

-- ---- an entry in range

abbrev pub SoundOperator : Operator → Type 0
SoundOperator x = (x.guarantee.0 ≤ most_guarantee) × (x.maintenance ≤ thousand)

pub record SoundAccount (operators : ℕ) (x : Account) : Type 0 where
  pub operator_low : 1 ≤ x.operator
  pub operator_high : x.operator ≤ operators
  pub kind_low : 1 ≤ x.kind
  pub kind_high : x.kind ≤ 2
  pub lower_high : Each (λ m. m.0 ≤ most_energy) x.lower
  pub upper_high : Each (λ m. m.0 ≤ most_energy) x.upper

pub record SoundPoint (accounts : List Account) (zones : ℕ) (x : Point) : Type 0 where
  pub account_low : 1 ≤ x.account
  pub account_high : x.account ≤ length accounts
  pub kind_low : 1 ≤ x.kind
  pub kind_high : x.kind ≤ 3
  pub kind_same : eqb x.kind 3 || eqb x.kind (nth accounts x.account no_account).kind ≡ true
  pub zone_low : 1 ≤ x.zone
  pub zone_high : x.zone ≤ zones
  pub injection_high : x.injection.0 ≤ (if eqb x.kind 2 then 0 else most_energy)
  pub withdrawal_high : x.withdrawal.0 ≤ (if eqb x.kind 1 then 0 else most_energy)

sound_price : (at : ℕ) (x : CentsPerMwh) → Each Good (estimate_values at x) → x.0 ≤ most_price
unfolding estimate_values
sound_price at x (cons p nil) = leb-true _ _ p

price_sound : (at : ℕ) (x : CentsPerMwh) → x.0 ≤ most_price → Each Good (estimate_values at x)
unfolding estimate_values
price_sound at x h = cons (le-leb _ _ h) nil

sound_operator : (at : ℕ) (x : Operator) → Each Good (operator_values at x) → SoundOperator x
unfolding operator_values
sound_operator at x (cons g (cons m nil)) = (leb-true _ _ g, leb-true _ _ m)

operator_sound : (at : ℕ) (x : Operator) → SoundOperator x → Each Good (operator_values at x)
unfolding operator_values
operator_sound at x h = cons (le-leb _ _ h.0) (cons (le-leb _ _ h.1) nil)

sound_margin : (at : ℕ) (x : Kwh) → Each Good (margin_values at x) → x.0 ≤ most_energy
unfolding margin_values
sound_margin at x (cons p nil) = leb-true _ _ p

margin_sound : (at : ℕ) (x : Kwh) → x.0 ≤ most_energy → Each Good (margin_values at x)
unfolding margin_values
margin_sound at x h = cons (le-leb _ _ h) nil

sound_account : (n : Counts) (at : ℕ) (x : Account) → Each Good (account_values n at x) → SoundAccount n.operators x
unfolding account_values
sound_account n at x (cons o (cons k margins)) =
    let os = (within_true 1 x.operator n.operators).0 o in
    let ks = (within_true 1 x.kind 2).0 k in
    let m = each_split _ (values_of margin_width margin_values (at + upper_offset n) x.upper) margins in
    record {
      operator_low = os.0;
      operator_high = os.1;
      kind_low = ks.0;
      kind_high = ks.1;
      lower_high = values_each margin_width margin_values sound_margin _ _ m.0;
      upper_high = values_each margin_width margin_values sound_margin _ _ m.1;
    }

account_sound : (n : Counts) (at : ℕ) (x : Account) → SoundAccount n.operators x → Each Good (account_values n at x)
unfolding account_values
account_sound n at x s =
    cons ((within_true 1 x.operator n.operators).1 (s.operator_low, s.operator_high))
    (cons ((within_true 1 x.kind 2).1 (s.kind_low, s.kind_high))
    (each_append (each_values margin_width margin_values margin_sound _ s.lower_high) (each_values margin_width margin_values margin_sound _ s.upper_high)))

sound_point : (accounts : List Account) (zones at : ℕ) (x : Point) → Each Good (point_values accounts zones at x) → SoundPoint accounts zones x
unfolding point_values
sound_point accounts zones at x (cons a (cons k (cons z (cons i (cons w nil))))) =
    let cs = (within_true 1 x.account (length accounts)).0 a in
    let kb = (and_both (within 1 x.kind 3) _).0 k in
    let ks = (within_true 1 x.kind 3).0 kb.0 in
    let zs = (within_true 1 x.zone zones).0 z in
    record {
      account_low = cs.0;
      account_high = cs.1;
      kind_low = ks.0;
      kind_high = ks.1;
      kind_same = kb.1;
      zone_low = zs.0;
      zone_high = zs.1;
      injection_high = leb-true _ _ i;
      withdrawal_high = leb-true _ _ w;
    }

point_sound : (accounts : List Account) (zones at : ℕ) (x : Point) → SoundPoint accounts zones x → Each Good (point_values accounts zones at x)
unfolding point_values
point_sound accounts zones at x s =
    cons ((within_true 1 x.account (length accounts)).1 (s.account_low, s.account_high))
    (cons ((and_both (within 1 x.kind 3) _).1 ((within_true 1 x.kind 3).1 (s.kind_low, s.kind_high), s.kind_same))
    (cons ((within_true 1 x.zone zones).1 (s.zone_low, s.zone_high))
    (cons (le-leb _ _ s.injection_high) (cons (le-leb _ _ s.withdrawal_high) nil))))

-- ---- all values

-- every value of a set-up with these operators is in range
pub record InRange (u : Setup) (operators : List Operator) : Type 0 where
  pub estimates_sound : Each (λ x. x.0 ≤ most_price) u.estimates
  pub operators_sound : Each SoundOperator operators
  pub accounts_sound : Each (SoundAccount (operator_count u)) u.accounts
  pub points_sound : Each (SoundPoint u.accounts u.zones) u.points

none_found : (o : Option Value) → option_map (λ v. v.0) o ≡ None → o ≡ None
none_found None h = refl
none_found (Some v) h = cc

pub values-in_range : (u : Setup) (operators : List Operator) → faulty_offset u operators ≡ None → InRange u operators
unfolding faulty_offset values
values-in_range u os h =
    let good : Each Good (values u os) = each_map (λ v e. not-false v.1 e) (find_none (λ v. not v.1) (values u os) (none_found _ h)) in
    let d = each_split _ (values_of point_entry (point_values u.accounts u.zones) (points_offset (counts_of u)) u.points) good in
    let c = each_split _ (values_of (account_entry (counts_of u)) (account_values (counts_of u)) (accounts_offset (counts_of u)) u.accounts) d.0 in
    let b = each_split (values_of price_width estimate_values estimates_offset u.estimates) (values_of operator_entry operator_values (operators_offset (counts_of u)) os) c.0 in
    record {
      estimates_sound = values_each price_width estimate_values sound_price _ _ b.0;
      operators_sound = values_each operator_entry operator_values sound_operator _ _ b.1;
      accounts_sound = values_each (account_entry (counts_of u)) (account_values (counts_of u)) (sound_account (counts_of u)) _ _ c.1;
      points_sound = values_each point_entry (point_values u.accounts u.zones) (sound_point u.accounts u.zones) _ _ d.1;
    }

pub in_range-values : (u : Setup) (operators : List Operator) → InRange u operators → faulty_offset u operators ≡ None
unfolding faulty_offset values
in_range-values u os s =
    let good : Each Good (values u os) =
    each_append (each_append (each_append (each_values price_width estimate_values price_sound _ s.estimates_sound)
    (each_values operator_entry operator_values operator_sound _ s.operators_sound))
    (each_values (account_entry (counts_of u)) (account_values (counts_of u)) (account_sound (counts_of u)) _ s.accounts_sound))
    (each_values point_entry (point_values u.accounts u.zones) (point_sound u.accounts u.zones) _ s.points_sound) in
    rw (none_find (λ v. not v.1) (each_map (λ v e. rw e) good))

-- the margins of any account in any hour: a number that none has is given 0
pub margins_in_range : (u : Setup) (operators : List Operator) (a h : ℕ) → InRange u operators
    → ((lower_at u a h).0 ≤ most_energy) × ((upper_at u a h).0 ≤ most_energy)
margins_in_range u os a h s =
    let zero : 0 ≤ most_energy = omega arith in
    let lower = each_nth_or no_account a nil (each_map (λ x k. k.lower_high) s.accounts_sound) in
    let upper = each_nth_or no_account a nil (each_map (λ x k. k.upper_high) s.accounts_sound) in
    (each_nth_or (kwh 0) (hour_of u h) zero lower, each_nth_or (kwh 0) (hour_of u h) zero upper)

-- ---- operators with other guarantees

pub operators_again : (os : List Operator) → operators_of (map (λ x. x.guarantee) os) (map (λ x. x.maintenance) os) ≡ os
unfolding operators_of
operators_again [] = refl
operators_again (x ∷ os) = ap (λ (l : List Operator). x ∷ l) (operators_again os)

pub maintenance_of : (gs : List Cents) (ms : List ℕ) → length gs ≡ length ms → map (λ x. x.maintenance) (operators_of gs ms) ≡ ms
unfolding operators_of
maintenance_of [] [] h = refl
maintenance_of [] (m ∷ ms) h = absurd (omega arith)
maintenance_of (g ∷ gs) [] h = absurd (omega arith)
maintenance_of (g ∷ gs) (m ∷ ms) h = ap (λ (l : List ℕ). m ∷ l) (maintenance_of gs ms (omega arith))

pub guarantees_of_lem : (gs : List Cents) (ms : List ℕ) → length gs ≡ length ms → map (λ x. x.guarantee) (operators_of gs ms) ≡ gs
unfolding operators_of
guarantees_of_lem [] ms h = refl
guarantees_of_lem (g ∷ gs) [] h = absurd (omega arith)
guarantees_of_lem (g ∷ gs) (m ∷ ms) h = ap (λ (l : List Cents). g ∷ l) (guarantees_of_lem gs ms (omega arith))

-- operators in range with their guarantees are so with none
pub sound_without : (os : List Operator) → Each SoundOperator os
    → Each SoundOperator (operators_of (replicate (length (map (λ x. x.maintenance) os)) (cents 0)) (map (λ x. x.maintenance) os))
unfolding operators_of
sound_without [] e = nil
sound_without (x ∷ os) (cons p e) = let low : 0 ≤ most_guarantee = omega arith in cons (low, p.1) (sound_without os e)
