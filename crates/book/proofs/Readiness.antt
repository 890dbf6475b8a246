-- A request that is ready: its fields are in range, so that it passed every check of the input that its kind has.
use Prim.Native.Nat.{ℕ, ◌≤◌, ◌<◌}
use mathlib.Core.Path.{◌≡◌, refl, ◌∙◌}
use mathlib.Core.List.{[], ◌∷◌}
use mathlib.Core.Bool.{true, false}
use native.Mathlib.Omega.{arith}
use lib.ListN.{get_or}
use borrow.Author.Tests.{eq-eqb}
use Rattle.rules.specs.declared.Request.{Request}
use Rattle.rules.specs.Basics.{bit, nil, cons}
use Rattle.rules.specs.Limits.{most_rows}
use Rattle.rules.specs.Books.{Book, counts_of, operator_count}
use Rattle.rules.specs.Requests.{Kind, withdraw, guarantee, settle, strip, kind_number, wanted_map, field_count, in_range, faulty_bit_among}
use Rattle.rules.specs.Calls.{Call, ◌one_of◌, input_checks}
use Rattle.rules.proofs.Basics.Tests.{within_true}
use Rattle.rules.proofs.Checks.Clearing.{Clear}
use Rattle.rules.proofs.Checks.Passed.{Asked, field_in_range}
use Rattle.book.specs.Members.{IsOperator}
use Rattle.book.specs.Kinds.{Ready}

-- a call that lends nothing: only settle looks at more than the request
abbrev pub bare : Call
bare = record { bytes = []; prices = []; results = []; balances = [] }

module _ (k : Kind) (b : Book) (q : Request) (r : Ready k b q) where
  -- each field of the kind is in range
  pub ready_field : (i : ℕ) → i < field_count → bit (wanted_map (kind_number k)) i ≡ true → get_or (in_range (counts_of b.setup) q) i true ≡ true
  ready_field i l e = field_in_range (counts_of b.setup) q i r.in_range l (rw r.of_kind e)

  -- it is the one request of its call
  pub ready_asked : k one_of (strip ∷ []) ≡ false → Asked k (q ∷ [])
  ready_asked single = record { several = omega arith; kinds = cons (r.of_kind ∙ rw single) nil; alone = λ _. refl }

  -- no check of the input applies: only settle looks at the buffers of a call
  pub ready_input : (c : Call) → k one_of (settle ∷ []) ≡ false → Clear (input_checks b c k (q ∷ []))
  unfolding input_checks faulty_bit_among
  ready_input c other =
      (rw other, (rw (eq-eqb q.account q.account refl, r.in_range), (rw other, (rw r.two_accounts, (rw other, tt)))))

-- withdraw names a number from 1 to 256
pub ready_number : (b : Book) (q : Request) → Ready withdraw b q → (1 ≤ q.number) × (q.number ≤ most_rows)
unfolding bit in_range
ready_number b q r = (within_true 1 q.number most_rows).0 (ready_field withdraw b q r 8 (omega arith) refl)

-- guarantee names an operator of the book
pub ready_operator : (b : Book) (q : Request) → Ready guarantee b q → IsOperator b q.operator
unfolding bit in_range
ready_operator b q r = (within_true 1 q.operator (operator_count b.setup)).0 (ready_field guarantee b q r 9 (omega arith) refl)
