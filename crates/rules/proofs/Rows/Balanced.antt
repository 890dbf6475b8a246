-- In each hour what all accounts bought is what all accounts sold: summed over the accounts, a row counts once as bought and once
-- as sold.
use Rattle.std.specs.Prelude.{if◌then◌else◌}
use Prim.Native.Nat.{ℕ, ◌≤◌}
use mathlib.Core.Path.{◌≡◌, refl, sym, ap, ◌∙◌}
use mathlib.Core.List.{List, [], ◌∷◌, map}
use mathlib.Core.Bool.{Bool, true, false, ◌&&◌}
use lib.Dec.{eqb}
use lib.IntN.{ℤ, pos, sub_ℕ, ◌+ℤ◌}
use Rattle.rules.specs.declared.Row.{Row}
use Rattle.rules.specs.Basics.{total, sum_of, up_to, Each}
use Rattle.rules.specs.Registration.{confirmed, includes_hour, buyer, seller, counted, moved, bought, sold, net_of, figure}
use Rattle.rules.proofs.Basics.Differences.{difference_add, difference_none}
use Rattle.rules.proofs.Basics.Searches.{each_map}
use Rattle.rules.proofs.Basics.Totals.{total_same, swap, shared}

-- both parties are accounts 1 to n, the side is 1 or 2
pub record Parties (n : ℕ) (r : Row) : Type 0 where
  pub buyer_low : 1 ≤ buyer r
  pub buyer_high : buyer r ≤ n
  pub seller_low : 1 ≤ seller r
  pub seller_high : seller r ≤ n
  pub side_low : 1 ≤ r.side
  pub side_high : r.side ≤ 2

-- of two accounts 1 to n, the one that a test picks
pub picked_in : (n : ℕ) (test : Bool) (x y : ℕ) → (1 ≤ x) × (x ≤ n) → (1 ≤ y) × (y ≤ n)
    → (1 ≤ (if test then x else y)) × ((if test then x else y) ≤ n)
picked_in n true x y a b = a
picked_in n false x y a b = b

-- a row whose proposer and counterparty are accounts
pub parties : (n : ℕ) (r : Row) → (1 ≤ r.proposer) × (r.proposer ≤ n) → (1 ≤ r.counterparty) × (r.counterparty ≤ n)
    → (1 ≤ r.side) × (r.side ≤ 2) → Parties n r
parties n r p c s =
    let buys = picked_in n (eqb r.side 1) r.counterparty r.proposer c p in
    let sells = picked_in n (eqb r.side 1) r.proposer r.counterparty p c in
    record {
      buyer_low = buys.0;
      buyer_high = buys.1;
      seller_low = sells.0;
      seller_high = sells.1;
      side_low = s.0;
      side_high = s.1;
    }

-- what confirmed rows move in the hour
abbrev pub moved_all : ℕ → List Row → ℕ
moved_all h rows = total (counted (λ r. confirmed r && includes_hour h r)) rows

-- over all accounts, whichever party is asked for
pub moved_all_lem : (party : Row → ℕ) (n h : ℕ) (rows : List Row) → Each (λ r. (1 ≤ party r) × (party r ≤ n)) rows
    → total (λ a. moved party rows a h) (up_to n) ≡ moved_all h rows
unfolding moved
moved_all_lem party n h rows e =
    swap (λ a. counted (λ r. confirmed r && includes_hour h r && eqb (party r) a)) (up_to n) rows
    ∙ total_same _ _ (λ r p. shared n (party r) r.quantity.0 (confirmed r && includes_hour h r) p.0 p.1) e

pub balanced : (n h : ℕ) (rows : List Row) → Each (Parties n) rows
    → total (λ a. bought rows a h) (up_to n) ≡ total (λ a. sold rows a h) (up_to n)
balanced n h rows e =
    moved_all_lem buyer n h rows (each_map (λ r p. (p.buyer_low, p.buyer_high)) e)
    ∙ sym (moved_all_lem seller n h rows (each_map (λ r p. (p.seller_low, p.seller_high)) e))

-- ---- the same of the signed figures

-- the sum of f over a list
abbrev pub totalℤ {ℓ} : {A : Type ℓ} → (A → ℤ) → List A → ℤ
totalℤ f xs = sum_of (map f xs)

-- a sum of differences is the difference of the sums
pub total_differences {ℓ} : {A : Type ℓ} (f g : A → ℕ) (xs : List A) → totalℤ (λ x. sub_ℕ (f x) (g x)) xs ≡ sub_ℕ (total f xs) (total g xs)
unfolding total sum_of
total_differences f g [] = refl
total_differences f g (x ∷ xs) =
    ap (λ (z : ℤ). sub_ℕ (f x) (g x) +ℤ z) (total_differences f g xs) ∙ difference_add (f x) (g x) (total f xs) (total g xs)

-- in each hour the net positions sum to zero
pub nets_cancel : (n h : ℕ) (rows : List Row) → Each (Parties n) rows → totalℤ (λ a. figure (net_of rows a h)) (up_to n) ≡ pos 0
nets_cancel n h rows e =
    total_differences (λ a. bought rows a h) (λ a. sold rows a h) (up_to n)
    ∙ rw (balanced n h rows e) (difference_none (total (λ a. sold rows a h) (up_to n)))
