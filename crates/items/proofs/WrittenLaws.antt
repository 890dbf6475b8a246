-- Texts put one behind the other are one text.
use Prim.Native.Nat.{ℕ, ◌≤◌}
use mathlib.Core.Path.{◌≡◌, ◌∙◌}
use mathlib.Core.List.{List, ◌++◌}
use native.Mathlib.Omega.{arith}
use lib.ListN.{length, length-append}
use Rattle.wire.proofs.RegionLaws.{splice-append}
use Rattle.items.specs.Written.{Written}

module _ {s : List ℕ} {at : ℕ} {x after : List ℕ} {past : ℕ} where
  -- the same text by another name
  pub written_as : (y : List ℕ) → x ≡ y → Written s at x after past → Written s at y after past
  written_as y e w = rw e at w

  pub written_then : {y last : List ℕ} {end : ℕ} → at ≤ length s → Written s at x after past → Written after past y last end → Written s at (x ++ y) last end
  written_then {y} h w v =
      record {
        put = v.put ∙ rw (w.put, w.behind) (splice-append s at x y h);
        behind = omega (arith, w.behind, v.behind, length-append x y);
      }
