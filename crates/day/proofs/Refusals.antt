-- The checks of a call by their numbers, in rank; none of them is 1: no call on a plain book is refused with it.
use Rattle.std.specs.Prelude.{if◌then◌else◌, Option, None, Some}
use Prim.Native.Nat.{ℕ, ◌<◌}
use mathlib.Core.Path.{◌≡◌, refl, ◌∙◌}
use mathlib.Core.List.{List, [], ◌∷◌, map}
use mathlib.Core.Bool.{Bool, true, false}
use native.Mathlib.Omega.{arith}
use lib.Dec.{ltb}
use borrow.Author.Tests.{ltb-true}
use Rattle.rules.specs.declared.Refusal.{Refusal}
use Rattle.rules.specs.declared.Request.{Request}
use Rattle.rules.specs.Basics.{every, Each, nil, cons}
use Rattle.rules.specs.Verdicts.{Check, ◌⇒◌, ◌⇒↑◌, applies, first_to_apply, refusal_numbers, numbers}
use Rattle.rules.specs.Books.{Book}
use Rattle.rules.specs.Requests.{Kind, read_checks, is_strip, strip_rows, row_checks, strip_checks}
use Rattle.rules.specs.Calls.{Call, call_kind, call_requests, checked_as, bytes_checks, input_checks, state_checks, checks, refusal, answer, step}
use Rattle.rules.specs.Lists.{Run, runs}
use Rattle.rules.proofs.Basics.Searches.{each_append, each_any, each_image, every_each}
use Rattle.rules.proofs.Checks.Passed.{single_requests}
use Rattle.rules.proofs.Lists.Carrying.{carried_run}
use Rattle.image.specs.Valid.{book_bytes}

-- ---- the number of a check

abbrev found : Option ℕ → ℕ
found None = 0
found (Some n) = n

-- the number that a check refuses with
abbrev rank : Check → ℕ
rank (t ⇒ r) = (refusal_numbers r).0
rank (o ⇒↑ r) = (refusal_numbers (r (found o))).0

-- the checks of the state, by their numbers
abbrev state_ranks : List ℕ
state_ranks = 11 ∷ 12 ∷ 13 ∷ 23 ∷ 14 ∷ 22 ∷ 15 ∷ 16 ∷ 16 ∷ 17 ∷ 18 ∷ 19 ∷ 20 ∷ []

-- every check of a call with a single record, by its number
pub ranks_of_a_record : (b : Book) (c : Call) → is_strip c.bytes ≡ false
    → map rank (checks b c) ≡ 2 ∷ 3 ∷ 4 ∷ 5 ∷ 5 ∷ 6 ∷ 6 ∷ 7 ∷ 10 ∷ state_ranks
unfolding checks read_checks input_checks state_checks
ranks_of_a_record b c e = rw (single_requests c.bytes e, e)

applies_ranked : (c : Check) (r : Refusal) → applies c ≡ Some r → rank c ≡ (refusal_numbers r).0
applies_ranked (true ⇒ x) r e = cc
applies_ranked (false ⇒ x) r e = cc
applies_ranked (Some n ⇒↑ x) r e = cc
applies_ranked (None ⇒↑ x) r e = cc

applies_above_go : (c : Check) (cs : List Check) (r : Refusal) (o : Option Refusal) → applies c ≡ o → 1 < rank c
    → (first_to_apply cs ≡ Some r → 1 < (refusal_numbers r).0) → first_to_apply (c ∷ cs) ≡ Some r → 1 < (refusal_numbers r).0
unfolding first_to_apply
applies_above_go c cs r (Some y) f l rest e = omega (arith, applies_ranked c r (f ∙ (rw (f, first_to_apply) at e)))
applies_above_go c cs r None f l rest e = rest (rw (f, first_to_apply) at e)

-- where every check's number is above 1, so is what is found
applies_above : {cs : List Check} → Each (λ c. ltb 1 (rank c) ≡ true) cs → (r : Refusal) → first_to_apply cs ≡ Some r → 1 < (refusal_numbers r).0
unfolding first_to_apply
applies_above nil r e = let z : ◌≡◌ {A = ℕ} 0 1 = cc in absurd (omega arith)
applies_above (cons {x = c} {xs = cs} l ls) r e = applies_above_go c cs r (applies c) refl (ltb-true 1 (rank c) l) (applies_above ls r) e

-- a check on each element
all_above : {A : Type 0} (f : A → Check) → ((x : A) → ltb 1 (rank (f x)) ≡ true) → (xs : List A) → Each (λ c. ltb 1 (rank c) ≡ true) (map f xs)
all_above f l xs = each_image f (each_any xs l)

bytes_above : (s : List ℕ) → Each (λ c. ltb 1 (rank c) ≡ true) (bytes_checks s)
unfolding read_checks strip_checks row_checks every
bytes_above s = go (is_strip s)
  where
    go : (t : Bool) → Each (λ c. ltb 1 (rank c) ≡ true) (if t then strip_checks s else read_checks s)
    go true =
        cons refl (cons refl (cons refl (cons refl
        (each_append (each_append (all_above _ (λ r. refl) (strip_rows s)) (all_above _ (λ r. refl) (strip_rows s))) (all_above _ (λ r. refl) (strip_rows s))))))
    go false = every_each (λ c. ltb 1 (rank c)) (read_checks s) refl

input_above : (b : Book) (c : Call) (k : Kind) (qs : List Request) → Each (λ c. ltb 1 (rank c) ≡ true) (input_checks b c k qs)
unfolding input_checks
input_above b c k qs =
    each_append
    (each_append (cons refl (all_above _ (λ q. refl) qs)) (cons refl (all_above _ (λ q. refl) qs)))
    (cons refl nil)

state_above : (b : Book) (k : Kind) (qs : List Request) → Each (λ c. ltb 1 (rank c) ≡ true) (state_checks b k qs)
unfolding state_checks every
state_above b k qs = every_each (λ c. ltb 1 (rank c)) (state_checks b k qs) refl

-- ---- a call, and a list of calls

-- the verdict is not 1
abbrev pub NotOne : {B : Type 0} → Run B → Type 0
NotOne x = (numbers x.answer.outcome).0 ≡ 1 → ⊥

refusal_above : (b : Book) (c : Call) (r : Refusal) → refusal b c ≡ Some r → 1 < (refusal_numbers r).0
unfolding refusal checks
refusal_above b c r e =
    applies_above
    (each_append
    (each_append (bytes_above c.bytes) (input_above b c (checked_as (call_kind c)) (call_requests c)))
    (state_above b (checked_as (call_kind c)) (call_requests c)))
    r e

step_not_one : (b : Book) (c : Call) → (numbers (step b c).outcome).0 ≡ 1 → ⊥
unfolding step answer
step_not_one b c h = go (refusal b c) refl h
  where
    go : (o : Option Refusal) → refusal b c ≡ o → (numbers (answer b c o).outcome).0 ≡ 1 → ⊥
    go (Some r) e h = omega (arith, refusal_above b c r e)
    go None e h = omega arith

pub runs_not_one : (b : Book) (cs : List Call) → Each NotOne (map (carried_run book_bytes) (runs step b cs))
unfolding runs
runs_not_one b [] = nil
runs_not_one b (c ∷ cs) = cons (step_not_one b c) (runs_not_one (step b c).book cs)
