-- The row that a confirm names, and a pending row (document 01, "Registration").
use Rattle.std.specs.Prelude.{◌≡◌, ℕ, zero, suc, ◌≤◌, true, List, Option, None, Some}
use Rattle.rules.specs.declared.Row.{Row}
use Rattle.rules.specs.declared.Request.{Request}
use Rattle.rules.specs.Basics.{index_of}
use Rattle.rules.specs.Books.{Book, registration_phase}
use Rattle.rules.specs.Registration.{pending, alike, mirrors}
use Rattle.rules.specs.Calls.{number_from, confirmed_number}
use Rattle.book.specs.Members.{numbered_row}

-- the number of the first pending row with this proposer, counterparty and code; 0 where there is none
abbrev pub number_alike : ℕ → ℕ → ℕ → List Row → ℕ
number_alike proposer counterparty code rows = number_from (index_of (alike proposer counterparty code) rows)

-- a number, or none where it is 0
abbrev pub some_number : ℕ → Option ℕ
some_number zero = None
some_number (suc i) = Some (suc i)

-- in the phase of registration, the request confirms this row: it names it and mirrors its terms
pub record Confirming (b : Book) (q : Request) (r : Row) : Type 0 where
  pub in_registration : b.phase ≡ registration_phase
  pub named : 1 ≤ confirmed_number b q
  pub row : r ≡ numbered_row b (confirmed_number b q)
  pub terms : mirrors q r ≡ true

-- one of the book's rows, pending
pub record WaitsIn (b : Book) (r : Row) : Type 0 where
  pub number : ℕ
  pub row : r ≡ numbered_row b number
  pub is_pending : pending r ≡ true
