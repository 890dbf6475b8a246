-- Regions of a list of bytes: replaced, copied over another, all zero.
use Rattle.std.specs.Prelude.{ℕ, zero, suc, ◌+◌, ◌≤◌, Bool, true, ◌&&◌, ◌⊎◌, List, length, ◌==◌, slice_index}
use Rattle.std.proofs.Math.Seq.{paste}

-- `d` with the first `n` of `s` in the place of as many from `at` on
unfoldable pub pasted : List ℕ → ℕ → List ℕ → ℕ → List ℕ
pasted d at s n = paste d at s n

-- `d` with `s` in the place of as many from `at` on
unfoldable pub splice : List ℕ → ℕ → List ℕ → List ℕ
unfolding pasted
splice d at s = pasted d at s (length s)

-- two regions of `n` do not overlap
abbrev pub Apart : ℕ → ℕ → ℕ → Type 0
Apart from to n = (from + n ≤ to) ⊎ (to + n ≤ from)

-- each of the `n` from `at` on is 0
unfoldable pub zeros_from : List ℕ → ℕ → ℕ → Bool
zeros_from s at zero = true
zeros_from s at (suc n) = slice_index s at == 0 && zeros_from s (at + 1) n
