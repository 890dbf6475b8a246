-- Entries of one width, side by side: all that is asked of a product of two unknowns.
use Prim.Native.Nat.{ℕ, suc, ◌+◌, ◌*◌, ◌≤◌, ◌<◌}
use mathlib.Core.Path.{◌≡◌}
use native.Mathlib.Nat.{mul-le-mul, mul-le-mul_left}
use native.Mathlib.Omega.{arith}

-- a later entry begins past the end of an earlier one
pub stride : (width s t : ℕ) → s < t → width * s + width ≤ width * t
stride width s t h = omega (arith, mul-le-mul_left {m = suc s} {n = t} width h)

-- one entry more
pub one_more : (width n m : ℕ) → n ≡ m + 1 → width * n ≡ width * m + width
one_more width n m e = rw e (omega arith)

-- no more entries, and none wider
pub no_longer : (width wide n m : ℕ) → width ≤ wide → n ≤ m → width * n ≤ wide * m
no_longer width wide n m w h = mul-le-mul w h
