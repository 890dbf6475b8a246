-- A row of values is judged in parts: the first part that fails decides. So a loop over entries may stop there, and goes on otherwise.
use Rattle.std.specs.Prelude.{Err, Ok, option_map}
use Prim.Native.Nat.{ℕ, ◌+◌, ◌-◌, ◌*◌, ◌≤◌}
use mathlib.Core.Path.{◌≡◌, refl, sym, ◌∙◌, ap}
use mathlib.Core.List.{List, [], ◌∷◌, ◌++◌, append_assoc}
use mathlib.Core.Bool.{Bool, true, false, not, ◌&&◌, and_assoc, and-true}
use native.Mathlib.Omega.{arith}
use lib.ListN.{length, take, drop, length-map}
use lib.Dec.{leb}
use Rattle.wire.specs.Numbers.{number_at}
use Rattle.units.specs.declared.Kwh.{Kwh}
use Rattle.rules.specs.declared.Counts.{Counts}
use Rattle.rules.specs.declared.Refusal.{Refusal}
use Rattle.rules.specs.declared.Refusal.TheVariants.{SetupShape, SetupValue}
use Rattle.rules.specs.Basics.{every, find, entries, within}
use Rattle.rules.specs.Limits.{most_energy}
use Rattle.rules.specs.Books.{injection_kind, withdrawal_kind}
use Rattle.rules.specs.Verdicts.{◌⇒↑◌, first_to_apply, checked, Checked}
use Rattle.rules.specs.Opening.{counts_in, Value, values_of, estimate_values, operator_values, point_values, margin_values, account_values, values, margin_in, account_in, lower_offset, upper_offset, price_width, operator_entry, margin_width, account_entry, point_entry, estimates_offset, operators_offset, accounts_offset, points_offset, account_offset, estimates_in, accounts_in, points_in, misshapen, faulty_offset, setup_of, setup_refusal, operators_in}
use Rattle.rules.proofs.Basics.Products.{one_more}
use Rattle.rules.proofs.Setups.SetupShape.{shape_of, shape_length}
use Rattle.rules.proofs.Setups.SetupEntries.{length_operators, length_accounts, length_points, account_at, values_done, values_step, values_split}
use Rattle.setup.specs.Faults.{or_else, or_fault, first_fault_from, first_fault, margins_from, margins_fine, margin_faults, Shaped}

-- ---- one value

pub in_range_lem : (found : Checked) (at : ℕ) {fine : Bool} → fine ≡ true → found ≡ or_fault found (at, fine)
unfolding or_fault
in_range_lem (Ok tt) at e = rw e
in_range_lem (Err r) at e = refl

pub out_of_range : (found : Checked) (at : ℕ) {fine : Bool} {r : Checked} → fine ≡ false → r ≡ or_else found (Err (SetupValue at))
    → r ≡ or_fault found (at, fine)
unfolding or_fault or_else
out_of_range (Ok tt) at e h = rw e h
out_of_range (Err r) at e h = h

-- ---- in parts

-- what failed stays
pub judged_fails : (r : Refusal) (vs : List Value) → first_fault_from (Err r) vs ≡ Err r
unfolding first_fault_from or_fault
judged_fails r [] = refl
judged_fails r (v ∷ vs) = judged_fails r vs

pub judged_append_from : (found : Checked) (vs ws : List Value) → first_fault_from found (vs ++ ws) ≡ first_fault_from (first_fault_from found vs) ws
unfolding first_fault_from
judged_append_from found [] ws = refl
judged_append_from found (v ∷ vs) ws = judged_append_from (or_fault found v) vs ws

-- where the first part has no fault, the second decides; where it has one, that does
module _ (vs ws : List Value) {f : Checked} (judgement : f ≡ first_fault vs) where
  pub part_clear : f ≡ Ok tt → first_fault (vs ++ ws) ≡ first_fault ws
  part_clear c = judged_append_from (Ok tt) vs ws ∙ ap (λ found. first_fault_from found ws) (sym judgement ∙ c)

  pub part_fails : {r : Refusal} → f ≡ Err r → Err r ≡ first_fault (vs ++ ws)
  part_fails {r} c =
      sym (judged_append_from (Ok tt) vs ws ∙ ap (λ found. first_fault_from found ws) (sym judgement ∙ c) ∙ judged_fails r ws)

-- ---- a loop over entries

-- the n entries of width w that are left from `at` on come to what all entries come to
pub record EntriesLeft {A : Type 0} (w : ℕ) (read : List ℕ → A) (say : ℕ → A → List Value) (s : List ℕ) (all : Checked) (at n : ℕ) : Type 0 where
  pub inside : at + w * n ≤ length s
  pub come_to : first_fault (values_of w say at (entries w read n (drop at s))) ≡ all

-- all are left before the first
pub all_left : {A : Type 0} {w : ℕ} {read : List ℕ → A} {say : ℕ → A → List Value} {s : List ℕ} {all : Checked} (at n : ℕ) {place k : ℕ}
    → place ≡ at → k ≡ n → at + w * n ≤ length s → first_fault (values_of w say at (entries w read n (drop at s))) ≡ all
    → EntriesLeft w read say s all place k
all_left at n p e inside come_to = rw (p, e) record { inside = inside; come_to = come_to }

module _ {A : Type 0} {w : ℕ} {read : List ℕ → A} {say : ℕ → A → List Value} {s : List ℕ} {all : Checked} {at n : ℕ} (left : EntriesLeft w read say s all at n)
  where
    -- none is left
    pub none_left : n ≤ 0 → (Ok tt) ≡ all
    unfolding first_fault_from
    none_left h = rw (values_done w read say at n (drop at s) h) at left.come_to

    module _ (m : ℕ) {x : A} {f : Checked} (e : n ≡ m + 1) (found : x ≡ read (take w (drop at s))) (judgement : f ≡ first_fault (say at x)) where
      -- it has no fault, and the others are left
      pub first_clear : {place k : ℕ} → place ≡ at + w → k ≡ m → f ≡ Ok tt → EntriesLeft w read say s all place k
      first_clear p q c =
          rw (p, q) record {
            inside = omega (arith, left.inside, one_more w n m e);
            come_to = rw (values_step w read say at n m s e, judged_append_from, ← found, ← judgement, c) at left.come_to;
          }

      -- it has a fault, and that decides
      pub first_fails : {r : Refusal} → f ≡ Err r → Err r ≡ all
      first_fails {r} c =
          sym (judged_fails r _) ∙ (rw (values_step w read say at n m s e, judged_append_from, ← found, ← judgement, c) at left.come_to)

-- what begins where the counts say, begins where equal counts say
pub at_counts : (F : Counts → ℕ → Checked) (from : Counts → ℕ) {n k : Counts} {at : ℕ} → n ≡ k → at ≡ from n → F n at ≡ F k (from k)
at_counts F from e a = rw (a, e)

-- the entry of an account ends where that of the next one begins
pub next_account : (n : Counts) (a : ℕ) → 1 ≤ a → account_offset n (a + 1) ≡ account_offset n a + account_entry n
next_account n a h = omega (arith, one_more (account_entry n) (a + 1 - 1) (a - 1) (omega arith))

-- ---- margins side by side

-- where all values are in range none is at fault
clear_where_fine : (vs : List Value) → every (λ v. v.1) vs ≡ true → first_fault vs ≡ (Ok tt)
unfolding every first_fault_from or_fault
clear_where_fine [] h = refl
clear_where_fine ((at, true) ∷ vs) h = clear_where_fine vs h
clear_where_fine ((at, false) ∷ vs) h = cc

pub no_margin_fault : (s : List ℕ) (from count : ℕ) {fine : Bool} → fine ≡ margins_fine s from count → fine ≡ true → (Ok tt) ≡ margin_faults s from count
unfolding margins_fine margin_faults
no_margin_fault s from count e t = sym (clear_where_fine (margins_from s from count) (sym e ∙ t))

-- the n margins that are left from `at` on, with those before them, come to what all come to
pub record MarginsLeft (s : List ℕ) (all fine : Bool) (at n : ℕ) : Type 0 where
  pub inside : at + margin_width * n ≤ length s
  pub come_to : (fine && margins_fine s at n) ≡ all

module _ (s : List ℕ) (all : Bool) where
  pub no_margins_left : {fine : Bool} {at n : ℕ} → MarginsLeft s all fine at n → n ≤ 0 → fine ≡ all
  unfolding margins_fine every
  no_margins_left {fine} {at} {n} left h =
      sym (and-true fine) ∙ (rw (values_done margin_width margin_in margin_values at n (drop at s) h) at left.come_to)

  -- the first of them was tested
  pub margin_tested : {fine : Bool} {at n : ℕ} (m : ℕ) {x : Kwh} → MarginsLeft s all fine at n → n ≡ m + 1
      → x ≡ margin_in (take margin_width (drop at s)) → {place k : ℕ} → place ≡ at + margin_width → k ≡ m
      → MarginsLeft s all (fine && leb x.0 most_energy) place k
  unfolding margins_fine every margin_values
  margin_tested {fine} {at = at} {n} m {x} left e found p q =
      rw (p, q) record {
        inside = omega (arith, left.inside);
        come_to =
            and_assoc fine (leb x.0 most_energy) (margins_fine s (at + margin_width) m)
            ∙ (rw (values_step margin_width margin_in margin_values at n m s e, ← found) at left.come_to);
      }

-- ---- an account

-- its operator, its kind, and then its margins side by side, the upper ones past the lower ones
pub account_judged : (s : List ℕ) (n : Counts) (at : ℕ)
    → account_values n at (account_in n (take (account_entry n) (drop at s)))
    ≡ (at, within 1 (number_at s at 1) n.operators)
    ∷ (at + 1, within injection_kind (number_at s (at + 1) 1) withdrawal_kind)
    ∷ margins_from s (at + lower_offset) (2 * n.hours)
unfolding account_values
account_judged s n at =
    let past : at + upper_offset n ≡ at + lower_offset + margin_width * n.hours = omega arith in
    let both : n.hours + n.hours ≡ 2 * n.hours = omega arith in
    rw (account_at s at n, past, values_split margin_width margin_in margin_values (at + lower_offset) n.hours n.hours s, both) refl

-- ---- what a set-up is refused for

-- the first value that is out of range, as `rules` finds it
pub judged_is_found : (vs : List Value)
    → checked (first_to_apply ((option_map (λ v. v.0) (find (λ v. not v.1) vs) ⇒↑ SetupValue) ∷ [])) ≡ first_fault vs
unfolding first_to_apply find first_fault_from or_fault
judged_is_found [] = refl
judged_is_found ((at, true) ∷ vs) = judged_is_found vs
judged_is_found ((at, false) ∷ vs) = sym (judged_fails (SetupValue at) vs)

module _ (s : List ℕ) where
  -- the values of a set-up are those of its four lists
  pub list_by_list : values (setup_of s) (operators_in s)
      ≡ values_of price_width estimate_values estimates_offset (estimates_in s)
      ++ (values_of operator_entry operator_values (operators_offset (counts_in s)) (operators_in s)
      ++ (values_of (account_entry (counts_in s)) (account_values (counts_in s)) (accounts_offset (counts_in s)) (accounts_in s)
      ++ values_of point_entry (point_values (accounts_in s) (counts_in s).zones) (points_offset (counts_in s)) (points_in s)))
  unfolding values setup_of
  list_by_list = simp (length-map, length_operators, length_accounts, length_points, append_assoc)

  -- bytes in shape hold what their counts say
  pub shaped : misshapen s ≡ false → {n : Counts} → n ≡ counts_in s → Shaped n s
  shaped h e =
      let shape = shape_of s h in
      record { counted = e; whole = rw e (omega arith); short = omega (arith, shape_length s shape) }

  pub refused_shape : misshapen s ≡ true → checked (setup_refusal s) ≡ Err SetupShape
  unfolding setup_refusal first_to_apply
  refused_shape e = rw e

  pub refused_value : misshapen s ≡ false → checked (setup_refusal s) ≡ first_fault (values (setup_of s) (operators_in s))
  unfolding setup_refusal first_to_apply faulty_offset
  refused_value e = rw e (judged_is_found (values (setup_of s) (operators_in s)))
