-- What opening writes besides zeros, the set-up and the phase (document 01, "Opening"): two loops over the operators of a set-up.
use Rattle.std.specs.Prelude.{ℕ, zero, suc, ◌+◌, List, take, drop}
use Rattle.wire.specs.Regions.{splice}
use Rattle.wire.specs.Parts.{zeros}
use Rattle.rules.specs.Opening.{guarantee_width, operator_entry}

-- the guarantees of n operators, 10 bytes each from `at` on, made zero
unfoldable pub guarantees_cleared : List ℕ → ℕ → ℕ → List ℕ
guarantees_cleared s at zero = s
guarantees_cleared s at (suc n) = guarantees_cleared (splice s at (zeros guarantee_width)) (at + operator_entry) n

-- the guarantees of n operators, in the set-up `s` from `from` on, put into `d` from `at` on
unfoldable pub guarantees_put : List ℕ → ℕ → List ℕ → ℕ → ℕ → List ℕ
guarantees_put d at s from zero = d
guarantees_put d at s from (suc n) = guarantees_put (splice d at (take guarantee_width (drop from s))) (at + guarantee_width) s (from + operator_entry) n
