-- Numbers in bytes (document 01, "What the book covers"): unsigned unless called signed (two's complement), low byte first.
use Rattle.std.specs.Prelude.{ℕ, zero, suc, ◌+◌, ◌-◌, ◌*◌, ◌/◌, ◌%◌, ◌^◌, ◌<◌, cond, List, [], ◌∷◌, take, drop, ℤ, pos, negsuc, nat_lt}
use Rattle.std.proofs.Math.IntN.{sub_ℕ}

-- the number that these bytes make, low byte first
unfoldable pub number : List ℕ → ℕ
number [] = 0
number (b ∷ bs) = b + 256 * number bs

-- the number in the `width` bytes from `at` on
unfoldable pub number_at : List ℕ → ℕ → ℕ → ℕ
unfolding number
number_at s at width = number (take width (drop at s))

-- a number in `width` bytes, low byte first
unfoldable pub le : ℕ → ℕ → List ℕ
le zero v = []
le (suc width) v = v % 256 ∷ le width (v / 256)

-- a signed number in `width` bytes: minus 1 is all ones, and minus n is n times that
unfoldable pub signed : ℕ → ℤ → List ℕ
unfolding le
signed width (pos n) = le width n
signed width (negsuc n) = le width ((256 ^ width - 1) * suc n)

-- minus v as a word of `width` bytes
abbrev pub minus_word : ℕ → ℕ → ℕ
minus_word width v = (256 ^ width - v) % 256 ^ width

-- the signed number that 8 bytes say in two's complement: from 2 ^ 63 on it is 2 ^ 64 less
unfoldable pub figure_in : List ℕ → ℤ
figure_in s = cond (nat_lt (number s) (2 ^ 63)) (pos (number s)) (sub_ℕ (number s) (2 ^ 64))

-- each element is a byte
pub data Bytes : List ℕ → Type 0 where
  none : Bytes []
  more : {b : ℕ} {bs : List ℕ} → b < 256 → Bytes bs → Bytes (b ∷ bs)
