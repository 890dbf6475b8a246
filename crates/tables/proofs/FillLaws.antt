-- The table row by row: what it holds and the sums of the rows that are left make the sums of all rows.
use Prim.Native.Nat.{ℕ, zero, suc, ◌+◌, ◌^◌, ◌≤◌, ◌<◌}
use mathlib.Core.Path.{◌≡◌, refl, ap, ◌∙◌}
use mathlib.Core.List.{List, [], ◌∷◌}
use native.Mathlib.Omega.{arith}
use lib.ListN.{length, get_or, length-replicate, replicate}
use Rattle.rules.specs.declared.Row.{Row}
use Rattle.rules.specs.Basics.{total}
use Rattle.rules.specs.Limits.{most_energy}
use Rattle.rules.specs.Registration.{moved, waiting}
use Rattle.image.specs.Tables.{cell_of, InTable, Tabled, Room, table_size}
use Rattle.image.proofs.Tables.SumLaws.{zero_at}
use Rattle.tables.specs.Sums.{SumsOf, NoSums, RowAdded, lane_sum}

-- ---- the sums of one row and of the others

pub lane_step : (lane : ℕ) (r : Row) (rows : List Row) (a h : ℕ) → lane_sum lane (r ∷ rows) a h ≡ lane_sum lane (r ∷ []) a h + lane_sum lane rows a h
unfolding lane_sum moved waiting total
lane_step zero r rows a h = omega arith
lane_step (suc zero) r rows a h = omega arith
lane_step (suc (suc zero)) r rows a h = omega arith
lane_step (suc (suc (suc lane))) r rows a h = omega arith

pub lane_none : (lane a h : ℕ) → lane_sum lane [] a h ≡ 0
unfolding lane_sum moved waiting total
lane_none zero a h = refl
lane_none (suc zero) a h = refl
lane_none (suc (suc zero)) a h = refl
lane_none (suc (suc (suc lane))) a h = refl

-- ---- a table that is being filled

-- the table holds the sums of all rows but those that are left, and no cell is above the bound
pub record Filling (top : ℕ) (all left : List Row) (table : List ℕ) (most : ℕ) : Type 0 where
  pub sums : (lane a h : ℕ) → lane ≤ 3 → InTable top a h → get_or table (cell_of top lane a h) 0 + lane_sum lane left a h ≡ lane_sum lane all a h
  pub bounded : (k : ℕ) → get_or table k 0 ≤ most

pub none_of_zeros : (top n : ℕ) → table_size top ≤ n → NoSums top (replicate n 0)
none_of_zeros top n h = record { whole = omega (arith, length-replicate {A = ℕ} n 0); zeros = zero_at n }

pub filling_none : {top : ℕ} (table : List ℕ) (rows : List Row) (most : ℕ) → NoSums top table → Filling top rows rows table most
filling_none {top} table rows most e =
    record { sums = λ lane a h l i. omega (arith, e.zeros (cell_of top lane a h)); bounded = λ k. omega (arith, e.zeros k) }

-- there is room for a row more
pub filling_room : {top : ℕ} (all left : List Row) (table : List ℕ) (most : ℕ) (r : Row) → Filling top all left table most → Tabled top r
    → most + most_energy < 2 ^ 32 → Room table 0 r.quantity.0
filling_room all left table most r f t h k l = omega (arith, f.bounded k, t.quantity_high)

pub filling_next : {top : ℕ} (all left rest : List Row) (before after : List ℕ) (most more : ℕ) (r : Row) → left ≡ r ∷ rest → more ≡ most + most_energy
    → Tabled top r → RowAdded top before after r → Filling top all left before most → Filling top all rest after more
filling_next all left rest before after most more r e d t w f =
    record {
      sums = λ lane a h l i.
          let x = w.share lane a h l i in
          let y = f.sums lane a h l i in
          let z = ap (λ (rows : List Row). lane_sum lane rows a h) e ∙ lane_step lane r rest a h in
          omega arith;
      bounded = λ k. omega (arith, w.grown k, f.bounded k, t.quantity_high);
    }

-- a table whose cells are these lane sums
pub sums_by : {top : ℕ} {rows : List Row} (table : List ℕ) → table_size top ≤ length table → ((k : ℕ) → get_or table k 0 < 2 ^ 32)
    → ((lane : ℕ) → lane ≤ 3 → (a h : ℕ) → InTable top a h → get_or table (cell_of top lane a h) 0 ≡ lane_sum lane rows a h) → SumsOf top rows table
unfolding lane_sum
sums_by table n small at =
    record {
      whole = n;
      small = small;
      bought_at = at 0 (omega arith);
      sold_at = at 1 (omega arith);
      sales_at = at 2 (omega arith);
      purchases_at = at 3 (omega arith);
    }

pub filling_done : {top : ℕ} (all left : List Row) (table : List ℕ) (most : ℕ) → left ≡ [] → table_size top ≤ length table → most < 2 ^ 32
    → Filling top all left table most → SumsOf top all table
filling_done all left table most e n h f =
    sums_by table n (λ k. omega (arith, f.bounded k)) (λ lane l a h i.
    omega (arith, f.sums lane a h l i, ap (λ (rows : List Row). lane_sum lane rows a h) e ∙ lane_none lane a h))
