-- What a request that was read by itself and is in range is answered on a book, and the book after it (document 01, "Registration",
-- "Verdicts").
use Rattle.std.specs.Prelude.{◌^◌, ◌<◌, ◌≡◌, [], ◌∷◌, false, Option, None}
use Rattle.rules.specs.declared.Request.{Request}
use Rattle.rules.specs.declared.Refusal.{Refusal}
use Rattle.rules.specs.Verdicts.{first_to_apply, outcome_of, Verdict}
use Rattle.rules.specs.Books.{Book, counts_of}
use Rattle.rules.specs.Requests.{Kind, kind_number, faulty_bit, same_accounts, unless_refused}
use Rattle.rules.specs.Calls.{checked_as, state_checks, changed, given}

-- what the state refuses it for, if anything: 11 to 20, and 23; an ask is checked as the register of its fields
unfoldable pub decided : Kind → Book → Request → Option Refusal
decided k b q = first_to_apply (state_checks b (checked_as k) (q ∷ []))

-- the answer
unfoldable pub outcome_on : Kind → Book → Request → Verdict
outcome_on k b q = outcome_of (decided k b q) (given k b (q ∷ []))

-- the book after it, before asks are cleared: a refusal changes nothing
unfoldable pub book_after : Kind → Book → Request → Book
book_after k b q = unless_refused (decided k b q) b (changed k b (q ∷ []))

-- a request of that kind whose fields are in range of the book
pub record Ready (k : Kind) (b : Book) (q : Request) : Type 0 where
  pub of_kind : q.kind ≡ kind_number k
  pub in_range : faulty_bit (counts_of b.setup) q ≡ None
  pub two_accounts : same_accounts q ≡ false
  pub code_fits : q.code < 256 ^ 8
