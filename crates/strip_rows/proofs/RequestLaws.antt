-- The checks of requests, and the tests for codes, request by request.
use Rattle.std.specs.Prelude.{Err, Ok, Option, None, Some}
use Prim.Native.Nat.{ℕ, zero, suc, ◌+◌, ◌*◌, ◌<◌}
use mathlib.Core.Path.{◌≡◌, refl, sym, ap, ◌∙◌}
use mathlib.Core.List.{List, ◌∷◌, ◌++◌, map}
use mathlib.Core.Bool.{Bool, true, false, ◌||◌, or-true}
use native.Mathlib.Omega.{arith}
use lib.Dec.{eqb}
use lib.ListN.{length, get_or}
use Rattle.std.specs.Bool.{MatchBool}
use Rattle.std.specs.List.{range_with_len, AllWithin, HoldsAt}
use Rattle.std.proofs.lemmas.List.FromFn.{length-range_with_len, get_or-range_with_len}
use borrow.Author.Tests.{eq-eqb, ne_eqb}
use Rattle.rules.specs.declared.Counts.{Counts}
use Rattle.rules.specs.declared.Refusal.{Refusal}
use Rattle.rules.specs.declared.Request.{Request}
use Rattle.rules.specs.Basics.{any_passes, bit}
use Rattle.rules.specs.Verdicts.{first_to_apply, checked, or_else, Checked}
use Rattle.rules.specs.Requests.{kind_number, register, row_length, request_of, first_of, faulty_bit, faulty_bit_among, same_accounts}
use Rattle.rules.specs.Registration.{of_code, twins}
use Rattle.rules.proofs.Basics.Searches.{any_step}
use Rattle.rules.proofs.Checks.Clearing.{checked-same, applies_first, applies_later}
use Rattle.strip_rows.specs.Rows.{row_of, requests_from}
use Rattle.strip_rows.specs.Passes.{range_check, accounts_check, requests_checks}
use Rattle.strip_rows.proofs.RowsFrom.{rows_step}
use Rattle.strip_rows.proofs.RowSteps.{requests_done}

-- ---- the checks of one request

-- a refusal, or else none
pub or_clear : (o : Option Refusal) → or_else o (Ok tt) ≡ checked o
or_clear None = refl
or_clear (Some r) = refl

module _ (n : Counts) (proposer : ℕ) (q : Request) where
  -- its fields decide where its account is the proposer
  pub of_proposer : q.account ≡ proposer → faulty_bit_among n proposer q ≡ faulty_bit n q
  unfolding faulty_bit_among
  of_proposer e = rw (eq-eqb q.account proposer e)

  pub of_another : (q.account ≡ proposer → ⊥) → faulty_bit_among n proposer q ≡ Some 1
  unfolding faulty_bit_among
  of_another e = rw (ne_eqb q.account proposer e)

-- a register has two accounts
pub same_two : (q : Request) → q.kind ≡ kind_number register → same_accounts q ≡ eqb q.account q.other
unfolding same_accounts bit
same_two q k = rw k

-- ---- the checks of all requests

module _ (n : Counts) {proposer : ℕ} (qs : List Request) (same : proposer ≡ (first_of qs).account) where
  both_passes : requests_checks n qs ≡ map (range_check n proposer) qs ++ map accounts_check qs
  unfolding requests_checks
  both_passes = rw same

  module _ {a : Checked} (known : a ≡ checked (first_to_apply (map (range_check n proposer) qs))) where
    -- 6 applies
    pub range_refused : {r : Refusal} → a ≡ Err r → Err r ≡ checked (first_to_apply (requests_checks n qs))
    range_refused e = ap checked (sym (ap first_to_apply both_passes ∙ applies_first _ _ _ (checked-same _ (Some _) (sym known ∙ e))))

    -- it does not, and 7 decides
    pub accounts_decide : {b : Checked} → a ≡ (Ok tt) → b ≡ checked (first_to_apply (map accounts_check qs))
        → b ≡ checked (first_to_apply (requests_checks n qs))
    accounts_decide e d = d ∙ ap checked (sym (ap first_to_apply both_passes ∙ applies_later _ _ (checked-same _ None (sym known ∙ e))))

-- ---- the tests for codes

module _ (q : Request) (qs : List Request) where
  -- another is alike the first
  pub twins_here : any_passes (of_code q.other q.code) qs ≡ true → twins (q ∷ qs) ≡ true
  unfolding twins
  twins_here e = rw (twins, e)

  -- none is, and the others decide
  pub twins_next : any_passes (of_code q.other q.code) qs ≡ false → twins (q ∷ qs) ≡ twins qs
  unfolding twins
  twins_next e = rw (twins, e)

-- a request passes where one passes by its number
module _ (test : Request → Bool) (s : List ℕ) where
  abbrev passes : ℕ → ℕ → Bool
  passes at i = test (request_of (row_of s at i))

  row_further : (at i : ℕ) → passes at (suc i) ≡ passes (at + row_length) i
  row_further at i = let e : at + row_length * suc i ≡ at + row_length + row_length * i = omega arith in rw e

  request_next : (at n : ℕ) → any_passes test (requests_from s at (suc n)) ≡ passes at 0 || any_passes test (requests_from s (at + row_length) n)
  request_next at n =
      let e : at + row_length * 0 ≡ at = omega arith in
      rw (e, rows_step s at (suc n) n (omega arith)) (any_step test _ _)

  one_passes : (at n i : ℕ) → i < n → passes at i ≡ true → any_passes test (requests_from s at n) ≡ true
  one_passes at zero i low h = absurd (omega arith)
  one_passes at (suc n) zero low h = request_next at n ∙ rw h
  one_passes at (suc n) (suc i) low h = request_next at n ∙ rw (one_passes (at + row_length) n i (omega arith) (sym (row_further at i) ∙ h), or-true)

  none_passes : (at n : ℕ) → ((i : ℕ) → i < n → passes at i ≡ false) → any_passes test (requests_from s at n) ≡ false
  unfolding any_passes
  none_passes at zero h = rw (requests_done s at 0 (omega arith))
  none_passes at (suc n) h =
      request_next at n ∙ rw (h 0 (omega arith), none_passes (at + row_length) n (λ i low. sym (row_further at i) ∙ h (suc i) (omega arith)))

  pub any_by_number : (at n : ℕ) (found : Bool)
      → MatchBool found ((k : ℕ) × (k < length (range_with_len 0 n)) × HoldsAt (λ i. passes at i ≡ true) (range_with_len 0 n) k)
      (AllWithin (λ i. passes at i ≡ false) (range_with_len 0 n) 0 (length (range_with_len 0 n)))
      → found ≡ any_passes test (requests_from s at n)
  any_by_number at n true (k, low, h) =
      let inside : k < n = rw (length-range_with_len 0 n) at low in
      let e : get_or (range_with_len 0 n) k 0 ≡ k = get_or-range_with_len 0 n k 0 inside ∙ omega arith in
      sym (one_passes at n k inside (rw e at (h 0)))
  any_by_number at n false h =
      sym (none_passes at n (λ k inside.
      let e : get_or (range_with_len 0 n) k 0 ≡ k = get_or-range_with_len 0 n k 0 inside ∙ omega arith in
      rw e at (h k 0 (omega arith) (rw (length-range_with_len 0 n) inside))))
