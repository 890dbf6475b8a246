-- What the library's order of two numbers says is the test of the definitions.
use Rattle.std.proofs.Common.{◌≡◌, ℕ, leb, rules}
use Rattle.std.specs.Ordering.{is_le, nat_cmp}

pub is_le-leb : (a b : ℕ) → is_le (nat_cmp a b) ≡ leb a b
is_le-leb a b = search rules
