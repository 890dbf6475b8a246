-- What tells whether register would accept the asks that stand (document 02, note 4): the twins among the rows, and sums that all asks share.
use Rattle.std.specs.Prelude.{ℕ, ◌+◌, ◌≤◌, ◌≡◌, List, Bool, false, length, get_or, Option, None, Some}
use Rattle.rules.specs.declared.Row.{Row}
use Rattle.rules.specs.Basics.{any_passes}
use Rattle.rules.specs.Limits.{most_operators, most_hours}
use Rattle.rules.specs.Books.{Book, operator_count, ask_at}
use Rattle.rules.specs.Registration.{alike, exposure}
use Rattle.image.specs.Valid.{book_in}
use Rattle.book.specs.Worth.{SaleInputs}
use Rattle.tables.specs.Sums.{SumsOf}

-- the row is a twin of the ask, if one stands
abbrev pub twin_of : Option Row → Row → Bool
twin_of None r = false
twin_of (Some x) r = alike x.proposer x.counterparty x.code r

-- the row is a twin of its proposer's ask
unfoldable pub is_ask_twin : Book → Row → Bool
is_ask_twin b r = twin_of (ask_at b r.proposer) r

-- some row of the book is
abbrev pub some_ask_twin : Book → Bool
some_ask_twin b = any_passes (is_ask_twin b) b.part.rows

-- how many exposures there are: one for each operator that a book can have, and one for no operator
abbrev pub exposures_size : ℕ
exposures_size = most_operators + 1

-- entry o of the list is the exposure of operator o
pub record OperatorExposures (b : Book) (exposures : List ℕ) : Type 0 where
  pub whole : length exposures ≡ exposures_size
  pub exposure_at : (o : ℕ) → 1 ≤ o → o ≤ operator_count b.setup → get_or exposures o 0 ≡ exposure b.setup b.part.rows o

-- what asks are tested by: bytes of a sound book, and from it the sums of all account hours, the exposure of each operator, the sums of the
-- estimated prices, and the operator of each account
pub record AskInputs (s table exposures sums operators : List ℕ) : Type 0 where
  pub account_hours : SumsOf most_hours (book_in s).part.rows table
  pub exposures_known : OperatorExposures (book_in s) exposures
  pub sale_inputs : SaleInputs s sums operators
