-- What a call is refused for, stage by stage: first by its bytes, then by what else it was lent, then by the state of the book. The first
-- stage that refuses decides, and where none does the call is accepted.
use Rattle.std.specs.Prelude.{Option, None, Some}
use mathlib.Core.Path.{◌≡◌, ◌∙◌}
use Rattle.rules.specs.declared.Refusal.{Refusal}
use Rattle.rules.specs.Verdicts.{first_to_apply, outcome_of}
use Rattle.rules.specs.Books.{Book}
use Rattle.rules.specs.Requests.{unless_refused}
use Rattle.rules.specs.Calls.{Call, call_requests, call_kind, changed, next, given, checked_as, bytes_checks, input_checks, state_checks, checks, refusal, answer, step, uncleared}
use Rattle.rules.proofs.Checks.Clearing.{applies_first, applies_later}

module _ (b : Book) (c : Call) where
  -- 2 to 5, by the bytes; of a strip also 21, and 2 to 4 of its rows
  pub bytes_refused : (r : Refusal) → first_to_apply (bytes_checks c.bytes) ≡ Some r → refusal b c ≡ Some r
  unfolding refusal checks
  bytes_refused r e =
      applies_first _ (state_checks b (checked_as (call_kind c)) (call_requests c)) r (applies_first _ (input_checks b c (checked_as (call_kind c)) (call_requests c)) r e)

  module _ (e : first_to_apply (bytes_checks c.bytes) ≡ None) where
    -- 5 to 10, by what else it was lent and the ranges of the book
    pub input_refused : (r : Refusal) → first_to_apply (input_checks b c (checked_as (call_kind c)) (call_requests c)) ≡ Some r → refusal b c ≡ Some r
    unfolding refusal checks
    input_refused r f = applies_first _ (state_checks b (checked_as (call_kind c)) (call_requests c)) r (applies_later _ _ e ∙ f)

    -- 11 to 20, by the state
    pub state_decides : first_to_apply (input_checks b c (checked_as (call_kind c)) (call_requests c)) ≡ None → refusal b c ≡ first_to_apply (state_checks b (checked_as (call_kind c)) (call_requests c))
    unfolding refusal checks
    state_decides f = applies_later _ _ (applies_later _ _ e ∙ f)

  -- the outcome and the book, by what it is refused for
  pub step_decided : (o : Option Refusal) → refusal b c ≡ o
      → ((step b c).outcome ≡ outcome_of o (given (call_kind c) b (call_requests c)))
      × ((step b c).book ≡ unless_refused o b (next (call_kind c) b (call_requests c)))
  unfolding step answer
  step_decided (Some r) e = (rw e, rw e)
  step_decided None e = (rw e, rw e)

  -- and the book before asks are cleared
  pub change_decided : (o : Option Refusal) → refusal b c ≡ o
      → (uncleared b c).book ≡ unless_refused o b (changed (call_kind c) b (call_requests c))
  unfolding uncleared
  change_decided o e = rw e
