-- The bits of a map: how many stand in one map and not in another, as the machine counts them and as the definition does.
use Rattle.std.specs.Prelude.{if◌then◌else◌}
use Prim.Native.Nat.{ℕ, zero, suc, ◌+◌, ◌-◌, ◌*◌, ◌/◌, ◌%◌, ◌^◌, ◌<◌, min}
use mathlib.Core.Path.{◌≡◌, refl, ◌∙◌, sym, ap, ap₂}
use mathlib.Core.Bool.{not, ◌&&◌}
use native.Mathlib.Nat.{min-le_left, lt_of_le_of_lt, pow-succ', div-one, div-div-eq-div-mul}
use native.Mathlib.Omega.{arith}
use lib.Arith.{lt-one}
use lib.Bits.{bit_and, and_step, and_zero_l}
use lib.Count.{ones, ones_step}
use lib.Dec.{eqb}
use Rattle.rules.specs.Basics.{total, counting, bit}
use Rattle.rules.specs.Requests.{bits, more}

-- 1 where bit k stands in one map and not in the other
abbrev only : ℕ → ℕ → ℕ → ℕ
only a b k = if bit a k && not (bit b k) then 1 else 0

-- halving a map moves its bits down by one
bit_half : (a k : ℕ) → bit a (suc k) ≡ bit (a / 2) k
unfolding bit
bit_half a k = rw (pow-succ' 2 k, ← div-div-eq-div-mul a 2 (2 ^ k))

only_half : (a b d k : ℕ) → total (only a b) (counting d (suc k)) ≡ total (only (a / 2) (b / 2)) (counting d k)
unfolding total counting
only_half a b zero k = refl
only_half a b (suc d) k = rw (bit_half a k, bit_half b k, only_half a b d (suc k))

-- of two binary digits, the first and not the second
digit : (x y : ℕ) → x < 2 → y < 2 → (if eqb x 1 && not (eqb y 1) then 1 else 0) ≡ min x (1 - y)
digit zero zero h l = refl
digit zero (suc zero) h l = refl
digit (suc zero) zero h l = refl
digit (suc zero) (suc zero) h l = refl
digit zero (suc (suc y)) h l = absurd (omega arith)
digit (suc zero) (suc (suc y)) h l = absurd (omega arith)
digit (suc (suc x)) y h l = absurd (omega arith)

min_small : (x y : ℕ) → x < 2 → min x y < 2
min_small x y h = lt_of_le_of_lt (min-le_left x y) h

-- the lowest bit, and the count of the rest
ones_and : (a b : ℕ) → ones (bit_and a b) ≡ min (a % 2) (b % 2) + ones (bit_and (a / 2) (b / 2))
ones_and a b =
    let m : ℕ = min (a % 2) (b % 2) in
    let l : m < 2 = min_small (a % 2) (b % 2) (omega arith) in
    let x : ℕ = bit_and (a / 2) (b / 2) in
    let r : (x * 2 + m) % 2 ≡ m = omega arith in
    let q : (x * 2 + m) / 2 ≡ x = omega arith in
    ap ones (and_step a b) ∙ ones_step (x * 2 + m) ∙ ap₂ (λ (i j : ℕ). i + ones j) r q

-- the lowest bit
only_low : (a b : ℕ) → only a b 0 ≡ min (a % 2) (1 - b % 2)
unfolding bit
only_low a b = rw (div-one a, div-one b) (digit (a % 2) (b % 2) (omega arith) (omega arith))

-- of d bits, where the machine's words have d + e
only_ones : (d e a b : ℕ) → a < 2 ^ d → b < 2 ^ (d + e) → ones (bit_and a (2 ^ (d + e) - 1 - b)) ≡ total (only a b) (counting d 0)
unfolding total counting ones
only_ones zero e a b h l = ap (λ (x : ℕ). ones (bit_and x (2 ^ (zero + e) - 1 - b))) (lt-one h) ∙ ap ones (and_zero_l (2 ^ (zero + e) - 1 - b))
only_ones (suc d) e a b h l =
    let p : ℕ = 2 ^ (d + e) in
    let f : 2 ^ (suc d + e) ≡ 2 * p = ap (λ (n : ℕ). 2 ^ n) (omega arith) ∙ pow-succ' 2 (d + e) in
    let g : 2 ^ suc d ≡ 2 * 2 ^ d = pow-succ' 2 d in
    let r : (2 * p - 1 - b) % 2 ≡ 1 - b % 2 = omega arith in
    let q : (2 * p - 1 - b) / 2 ≡ p - 1 - b / 2 = omega arith in
    ap (λ (x : ℕ). ones (bit_and a (x - 1 - b))) f
    ∙ ones_and a (2 * p - 1 - b)
    ∙ ap₂ (λ (i j : ℕ). min (a % 2) i + ones (bit_and (a / 2) j)) r q
    ∙ ap₂ (λ (i j : ℕ). i + j) (sym (only_low a b)) (only_ones d e (a / 2) (b / 2) (omega arith) (omega arith) ∙ sym (only_half a b d 0))

-- the ones of a map and of what another leaves out are the fields that stand in the one and not in the other
pub ones_more : (a b : ℕ) → a < 2 ^ 13 → b < 2 ^ 16 → ones (bit_and a (65535 - b)) ≡ more a b
unfolding more bits
ones_more a b h l = only_ones 13 3 a b h l
