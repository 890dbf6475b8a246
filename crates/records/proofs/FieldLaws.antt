-- How wide the fields of a record are, and a list of fields filled one after the other.
use Rattle.std.specs.Prelude.{if◌then◌else◌}
use Prim.Native.Nat.{ℕ, zero, suc, ◌+◌, ◌≤◌, max}
use mathlib.Core.Path.{◌≡◌}
use mathlib.Core.List.{List, [], ◌∷◌}
use mathlib.Core.Bool.{Bool, true, false}
use native.Mathlib.Numerals.{add-one}
use native.Mathlib.Omega.{arith}
use lib.ListN.{get_or, set}
use Rattle.rules.specs.Basics.{bit}
use Rattle.rules.specs.Requests.{widths, width_of, room}

-- ---- rooms

-- the largest entry of a table
abbrev pub largest : List ℕ → ℕ
largest [] = 0
largest (x ∷ xs) = max x (largest xs)

pub below_largest : (l : List ℕ) (k : ℕ) → get_or l k 0 ≤ largest l
below_largest [] k = omega arith
below_largest (x ∷ xs) zero = omega arith
below_largest (x ∷ xs) (suc k) = omega (arith, below_largest xs k)

-- no field is wider than 8 bytes
pub room_small : (m k : ℕ) → room m k ≤ 8
unfolding room
room_small m k = go (bit m k)
  where
    go : (t : Bool) → (if t then width_of k else 0) ≤ 8
    go true = below_largest widths k
    go false = omega arith

-- ---- a list filled from one place on

-- `n` entries from k on replaced by what f says of their places
unfoldable pub fill : (ℕ → ℕ) → List ℕ → ℕ → ℕ → List ℕ
fill f l k zero = l
fill f l k (suc n) = fill f (set l k (f k)) (k + 1) n

pub fill_none : (f : ℕ → ℕ) (l : List ℕ) (k n : ℕ) → n ≡ 0 → fill f l k n ≡ l
unfolding fill
fill_none f l k n e = rw e

pub fill_next : (f : ℕ → ℕ) (l : List ℕ) (k n m v : ℕ) → n ≡ m + 1 → v ≡ f k → fill f (set l k v) (k + 1) m ≡ fill f l k n
unfolding fill
fill_next f l k n m v e h = rw (e, add-one m, h)
