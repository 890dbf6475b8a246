-- A row or a schedule read at its place in the whole bytes: each number inside its bytes is that number of the whole.
use Prim.Native.Nat.{ℕ, ◌+◌}
use mathlib.Core.Path.{◌≡◌}
use mathlib.Core.List.{List}
use native.Mathlib.Nat.{add-zero}
use native.Mathlib.Omega.{arith}
use lib.ListN.{take, drop}
use Rattle.wire.specs.Numbers.{number_at}
use Rattle.wire.proofs.PartLaws.{number_inner}
use Rattle.units.specs.Units.{kwh, cents_per_mwh}
use Rattle.image.specs.Image.{row_in, schedule_in}
use Rattle.image.specs.Layout.{row_width, schedule_width}

pub row_at : (s : List ℕ) (at : ℕ) → row_in (take row_width (drop at s)) ≡
    record {
      proposer = number_at s at 1;
      counterparty = number_at s (at + 1) 1;
      code = number_at s (at + 2) 8;
      side = number_at s (at + 10) 1;
      first = number_at s (at + 11) 1;
      last = number_at s (at + 12) 1;
      quantity = kwh (number_at s (at + 13) 4);
      status = number_at s (at + 17) 1;
    }
unfolding row_in
row_at s at =
    rw (number_inner 1 0 18 at s (omega arith), add-zero at, number_inner 1 1 18 at s (omega arith), number_inner 8 2 18 at s (omega arith), number_inner 1 10 18 at s (omega arith), number_inner 1 11 18 at s (omega arith), number_inner 1 12 18 at s (omega arith), number_inner 4 13 18 at s (omega arith), number_inner 1 17 18 at s (omega arith))

pub schedule_at : (s : List ℕ) (at : ℕ) → schedule_in (take schedule_width (drop at s)) ≡
    record {
      point = number_at s at 1;
      side = number_at s (at + 1) 1;
      hour = number_at s (at + 2) 1;
      quantity = kwh (number_at s (at + 3) 4);
      price = cents_per_mwh (number_at s (at + 7) 4);
    }
unfolding schedule_in
schedule_at s at =
    rw (number_inner 1 0 11 at s (omega arith), add-zero at, number_inner 1 1 11 at s (omega arith), number_inner 1 2 11 at s (omega arith), number_inner 4 3 11 at s (omega arith), number_inner 4 7 11 at s (omega arith))
