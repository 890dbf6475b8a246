-- A strip that was read and whose rows are in range of a book (document 02, note 3).
use Rattle.std.specs.Prelude.{ℕ, ◌≡◌, List, map, Bool, false, None}
use Rattle.rules.specs.declared.Row.{Row}
use Rattle.rules.specs.declared.Request.{Request}
use Rattle.rules.specs.Basics.{any_passes, Each}
use Rattle.rules.specs.Books.{Book, counts_of}
use Rattle.rules.specs.Requests.{head_length, first_of, faulty_bit, same_accounts}
use Rattle.rules.specs.Registration.{proposed, alike}
use Rattle.strip_rows.specs.Rows.{requests_from, StripOf}

-- the requests of its rows
abbrev pub strip_requests : List ℕ → ℕ → List Request
strip_requests s n = requests_from s head_length n

-- the rows that it proposes
abbrev pub proposed_rows : List ℕ → ℕ → List Row
proposed_rows s n = map proposed (strip_requests s n)

-- the account of all of them
abbrev pub proposer : List ℕ → ℕ → ℕ
proposer s n = (first_of (strip_requests s n)).account

-- a strip of n rows, each in range of the book, with two accounts, and of one proposer
pub record ReadyStrip (b : Book) (s : List ℕ) (n : ℕ) : Type 0 where
  pub is_strip : StripOf s n
  pub in_range : Each (λ q. faulty_bit (counts_of b.setup) q ≡ None) (strip_requests s n)
  pub one_proposer : Each (λ q. q.account ≡ proposer s n) (strip_requests s n)
  pub two_accounts : Each (λ q. same_accounts q ≡ false) (strip_requests s n)

-- the row, pending with this proposer, has counterparty and code of one of the requests
abbrev pub alike_among : ℕ → List Request → Row → Bool
alike_among account qs r = any_passes (λ q. alike account q.other q.code r) qs
