-- Asks (document 02, note 4): which asks stand in a book, the register beside an ask, and the calls between an ask and its commit.
use Rattle.std.specs.Prelude.{ℕ, ◌≡◌, List, [], ◌∷◌, Bool, true, not, ◌&&◌, ◌||◌, set, eqb, Option, None, Some, is_ok}
use Rattle.rules.specs.declared.Row.{Row}
use Rattle.rules.specs.Basics.{every, is_some, up_to}
use Rattle.rules.specs.Limits.{most_accounts}
use Rattle.rules.specs.Verdicts.{first_to_apply, Verdict}
use Rattle.rules.specs.Books.{Book, ask_at}
use Rattle.rules.specs.Requests.{register, ask, commit, kind_number, field_in, request_of}
use Rattle.rules.specs.Registration.{proposed, register_of}
use Rattle.rules.specs.Calls.{Call, Answer, state_checks}
use Rattle.rules.specs.Strips.{with_bytes}
use Rattle.rules.specs.Lists.{was_accepted, was_accepted_as, runs, after, accepts_as}

-- ---- the asks of a book

-- register would accept the row as the book is
unfoldable pub would_register : Book → Row → Bool
would_register b r = not (is_some (first_to_apply (state_checks b register (register_of r ∷ []))))

abbrev pub ask_stands : Book → Option Row → Bool
ask_stands b None = true
ask_stands b (Some r) = would_register b r

-- register would accept every ask that stands
unfoldable pub asks_stand : Book → Bool
asks_stand b = every (λ a. ask_stands b (ask_at b a)) (up_to most_accounts)

-- ---- an ask beside its register

-- the call with another kind in the third byte of its record
abbrev pub with_kind : ℕ → Call → Call
with_kind kind c = with_bytes c (set c.bytes 2 kind)

-- the register with an ask's fields
abbrev pub as_register : Call → Call
as_register c = with_kind (kind_number register) c

-- ---- what clears asks

-- a call with these bytes that is answered so clears them: every accepted one but an ask
abbrev pub clears_asks : List ℕ → Verdict → Bool
clears_asks s o = is_ok o && not (eqb (field_in s 0) (kind_number ask))

-- ---- an ask and its commit, with the calls between them

-- the account of a call's record
abbrev pub call_account : Call → ℕ
call_account c = (request_of c.bytes).account

module _ {B : Type 0} (answer : B → Call → Answer B) where
  -- no accepted call of the list is an ask of the account
  unfoldable pub no_ask_of : ℕ → B → List Call → Bool
  no_ask_of a b cs = every (λ x. not (was_accepted_as (ask ∷ []) x && eqb (call_account x.call) a)) (runs answer b cs)

  -- every accepted call of the list is an ask
  unfoldable pub only_asks : B → List Call → Bool
  only_asks b cs = every (λ x. not (was_accepted x) || was_accepted_as (ask ∷ []) x) (runs answer b cs)

  -- an accepted ask, calls of which none is an accepted ask of its account, and an accepted commit of that account
  pub record AskCommitted (b : B) (asking : Call) (between : List Call) (committing : Call) : Type 0 where
    pub asks : accepts_as answer (ask ∷ []) b asking ≡ true
    pub latest : no_ask_of (call_account asking) (after answer b (asking ∷ [])) between ≡ true
    pub commits : accepts_as answer (commit ∷ []) (after answer b (asking ∷ between)) committing ≡ true
    pub own : call_account committing ≡ call_account asking

  -- every accepted call between them is an ask, and the commit is answered as its ask was
  pub record CommittedAsAsked (b : B) (asking : Call) (between : List Call) (committing : Call) : Type 0 where
    pub only_asks : only_asks (after answer b (asking ∷ [])) between ≡ true
    pub same_answer : (answer (after answer b (asking ∷ between)) committing).outcome ≡ (answer b asking).outcome
    pub same_row : proposed (request_of committing.bytes) ≡ proposed (request_of asking.bytes)
