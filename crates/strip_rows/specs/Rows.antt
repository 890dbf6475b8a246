-- The rows of a strip from a place in its bytes on, and the requests that they say (document 02, note 3).
use Rattle.std.specs.Prelude.{ℕ, ◌+◌, ◌*◌, ◌≤◌, List, map, length, take, drop}
use Rattle.wire.specs.Parts.{chunks}
use Rattle.rules.specs.declared.Request.{Request}
use Rattle.rules.specs.Basics.{Each}
use Rattle.rules.specs.Limits.{most_strip}
use Rattle.rules.specs.Requests.{head_length, row_length, request_of}
use Rattle.rules.specs.Strips.{IsRegister}

-- the n rows from `at` on
unfoldable pub rows_from : List ℕ → ℕ → ℕ → List (List ℕ)
rows_from s at n = chunks row_length n (drop at s)

-- the row of that number, from 0
abbrev pub row_of : List ℕ → ℕ → ℕ → List ℕ
row_of s at i = take row_length (drop (at + row_length * i) s)

-- the requests that they say
abbrev pub requests_from : List ℕ → ℕ → ℕ → List Request
requests_from s at n = map request_of (rows_from s at n)

-- n rows from `at` on lie in the bytes, each the record of a register
pub record RegisterRows (s : List ℕ) (at n : ℕ) : Type 0 where
  pub inside : at + row_length * n ≤ length s
  pub registers : Each IsRegister (rows_from s at n)

-- all rows of a strip: at least one, at most 24
pub record StripOf (s : List ℕ) (n : ℕ) : Type 0 where
  pub rows : RegisterRows s head_length n
  pub some_rows : 1 ≤ n
  pub few_rows : n ≤ most_strip
