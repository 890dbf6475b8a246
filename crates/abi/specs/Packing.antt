-- An outcome as one number of 5 bytes (document 01, "Verdicts"): the verdict's number in the low byte, the first detail in the 2 bytes
-- above it, the second in the 2 bytes above those.
use Rattle.std.specs.Prelude.{ℕ, ◌+◌, ◌*◌, ◌/◌, ◌%◌, ◌≡◌, List}
use Rattle.rules.specs.Verdicts.{Numbers, numbers}
use Rattle.rules.specs.Calls.{Answer}

unfoldable pub packed : Numbers → ℕ
packed x = x.0 + 256 * (x.1 + 65_536 * x.2)

-- the three numbers that it says
unfoldable pub unpacked : ℕ → Numbers
unpacked p = (p % 256, p / 256 % 65_536, p / 256 / 65_536 % 65_536)

-- a number is these three packed, and says them again
pub record Packs (x : Numbers) (r : ℕ) : Type 0 where
  pub one_number : r ≡ packed x
  pub says_again : unpacked r ≡ x

-- an answer that is given with its outcome packed; the book and the two buffers are left as it says
pub record GivesPacked (a : Answer (List ℕ)) (r : ℕ) (book results balances : List ℕ) : Type 0 where
  pub outcome_packed : Packs (numbers a.outcome) r
  pub book_left : book ≡ a.book
  pub results_left : results ≡ a.results
  pub balances_left : balances ≡ a.balances
