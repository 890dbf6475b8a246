-- The kinds by their numbers, and their tables: one test, computed at each kind of a single record.
use Prim.Native.Nat.{ℕ, ◌^◌, ◌≤◌, ◌<◌}
use mathlib.Core.Path.{◌≡◌, refl, sym, ap, ◌∙◌}
use mathlib.Core.Bool.{Bool, true, false, not, ◌&&◌, ◌||◌}
use native.Mathlib.Omega.{arith}
use lib.Dec.{eqb, ltb}
use borrow.Author.Tests.{eqb-true, ltb-true, not-true}
use Rattle.rules.specs.Basics.{total, every, counting, up_to, bit}
use Rattle.rules.specs.Requests.{Kind, register, confirm, withdraw, guarantee, open_batch, undo, keep, close_gate, schedule, settle, strip, ask, commit, kind_number, kind_of, is_kind, is_single, wanted_map, wanted_length, field_count, room, offset}
use Rattle.rules.proofs.Basics.Tests.{and_both, within_true}
use Rattle.rules.proofs.Basics.Searches.{every_each, counted_has}

-- the kind of a kind's number is that kind
pub kind_again : (k : Kind) → kind_of (kind_number k) ≡ k
kind_again register = refl
kind_again confirm = refl
kind_again withdraw = refl
kind_again guarantee = refl
kind_again open_batch = refl
kind_again undo = refl
kind_again keep = refl
kind_again close_gate = refl
kind_again schedule = refl
kind_again settle = refl
kind_again strip = refl
kind_again ask = refl
kind_again commit = refl

-- no two kinds have one number
pub same_kind : (k j : Kind) → eqb (kind_number k) (kind_number j) ≡ true → k ≡ j
same_kind k j e = sym (kind_again k) ∙ ap kind_of (eqb-true (kind_number k) (kind_number j) e) ∙ kind_again j

-- the number of a single record's kind is that of a kind, and not a strip's
pub single_kind : (n : ℕ) → is_single n ≡ true → (1 ≤ n) × ((n ≤ 13) × (eqb n (kind_number strip) ≡ false))
single_kind n h =
    let w = (and_both (is_kind n) (not (eqb n (kind_number strip)))).0 h in
    let k = (within_true 1 n 13).0 w.0 in
    (k.0, (k.1, not-true _ w.1))

-- what ties the map and the length that a kind wants
pub record Agree (kind : ℕ) : Type 0 where
  -- a record ends with its last field
  pub ends : wanted_length kind ≡ offset (wanted_map kind) field_count
  -- the kind itself stands
  pub named : bit (wanted_map kind) 0 ≡ true
  -- no bit past the fields stands
  pub small : wanted_map kind < 2 ^ 13

agrees : ℕ → Bool
agrees kind =
    eqb (wanted_length kind) (offset (wanted_map kind) field_count) && bit (wanted_map kind) 0 && ltb (wanted_map kind) (2 ^ 13)

-- at the number of a strip nothing is said
agrees_single : ℕ → Bool
agrees_single kind = eqb kind (kind_number strip) || agrees kind

each_agrees : every agrees_single (up_to 13) ≡ true
unfolding agrees_single agrees offset room total counting bit every
each_agrees = refl

pub tables_agree : (kind : ℕ) → is_single kind ≡ true → Agree kind
unfolding agrees_single agrees
tables_agree kind h =
    let (low, (high, single)) = single_kind kind h in
    let holds : agrees kind ≡ true = rw single at (counted_has 13 1 kind (every_each agrees_single (up_to 13) each_agrees) low (omega arith)) in
    let small = (and_both _ (ltb (wanted_map kind) (2 ^ 13))).0 holds in
    let ends = (and_both (eqb (wanted_length kind) (offset (wanted_map kind) field_count)) (bit (wanted_map kind) 0)).0 small.0 in
    record { ends = eqb-true _ _ ends.0; named = ends.1; small = ltb-true _ _ small.1 }
