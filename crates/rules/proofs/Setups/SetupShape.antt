-- What is known of set-up bytes that are in shape, and of those that are not refused.
use Rattle.std.specs.Prelude.{None}
use Prim.Native.Nat.{ℕ, ◌≤◌, ◌^◌}
use mathlib.Core.Path.{◌≡◌}
use mathlib.Core.List.{List}
use mathlib.Core.Bool.{false, not}
use native.Mathlib.Omega.{arith}
use lib.ListN.{length}
use borrow.Author.Tests.{ltb-false, leb-true, eqb-true, not-false}
use Rattle.rules.specs.declared.Counts.{Counts}
use Rattle.rules.specs.Basics.{within}
use Rattle.rules.specs.Limits.{fewest_hours, most_hours, most_operators, most_accounts, most_points, most_zones}
use Rattle.rules.specs.Opening.{counts_in, setup_length, bad_counts, misshapen, setup_of, operators_in, faulty_offset, setup_refusal, counts_width, account_entry}
use Rattle.rules.proofs.Basics.Tests.{or_neither, within_true}
use Rattle.rules.proofs.Basics.Products.{no_longer}
use Rattle.rules.proofs.Checks.Clearing.{clear, spared, spared↑}

-- ---- counts in range

pub record Within (low x high : ℕ) : Type 0 where
  pub least : low ≤ x
  pub most : x ≤ high

pub record InRange (n : Counts) : Type 0 where
  pub hours : Within fewest_hours n.hours most_hours
  pub operators : Within 1 n.operators most_operators
  pub accounts : Within 1 n.accounts most_accounts
  pub points : n.points ≤ most_points
  pub zones : Within 1 n.zones most_zones

not_outside : (low x high : ℕ) → not (within low x high) ≡ false → Within low x high
not_outside low x high h = let p = (within_true low x high).0 (not-false _ h) in record { least = p.0; most = p.1 }

pub in_range_lem : (n : Counts) → bad_counts n ≡ false → InRange n
unfolding bad_counts
in_range_lem n h =
    let z = (or_neither _ _).0 h in
    let p = (or_neither _ _).0 z.0 in
    let a = (or_neither _ _).0 p.0 in
    let o = (or_neither _ _).0 a.0 in
    record {
      hours = not_outside _ _ _ o.0;
      operators = not_outside _ _ _ o.1;
      accounts = not_outside _ _ _ a.1;
      points = leb-true _ _ (not-false _ p.1);
      zones = not_outside _ _ _ z.1;
    }

-- ---- the shape

pub record Shape (s : List ℕ) : Type 0 where
  pub long : counts_width ≤ length s
  pub counts : InRange (counts_in s)
  pub exact : length s ≡ setup_length (counts_in s)

pub shape_of : (s : List ℕ) → misshapen s ≡ false → Shape s
unfolding misshapen
shape_of s h =
    let p = (or_neither _ _).0 h in
    let q = (or_neither _ _).0 p.0 in
    record {
      long = ltb-false _ _ q.0;
      counts = in_range_lem _ q.1;
      exact = eqb-true _ _ (not-false _ p.1);
    }

-- ---- the longest set-up: it has the most of each

abbrev most_counts : Counts
most_counts =
    record { hours = most_hours; operators = most_operators; accounts = most_accounts; points = most_points; zones = most_zones }

-- more hours make no account shorter
widest_account : (n : Counts) → n.hours ≤ most_hours → account_entry n ≤ account_entry most_counts
unfolding account_entry
widest_account n h = omega arith

longest_setup : setup_length most_counts ≤ 2 ^ 13
unfolding account_entry
longest_setup = omega arith

-- counts that are not too high make a set-up that is not too long
pub length_most : (n : Counts) → n.hours ≤ most_hours → n.operators ≤ most_operators → n.accounts ≤ most_accounts → n.points ≤ most_points
    → setup_length n ≤ 2 ^ 13
length_most n h o a p =
    omega (arith, longest_setup, no_longer (account_entry n) (account_entry most_counts) n.accounts most_accounts (widest_account n h) a)

pub shape_length : (s : List ℕ) → Shape s → length s ≤ 2 ^ 13
shape_length s h =
    let n = h.counts in
    omega (arith, h.exact, length_most (counts_in s) n.hours.most n.operators.most n.accounts.most n.points)

-- ---- a set-up that is not refused

module _ (s : List ℕ) (accepted : setup_refusal s ≡ None) where
  pub accepted_shape : Shape s
  unfolding setup_refusal
  accepted_shape = shape_of s (spared _ _ (clear _ accepted).0)

  pub accepted_values : faulty_offset (setup_of s) (operators_in s) ≡ None
  unfolding setup_refusal
  accepted_values = spared↑ _ _ (clear _ accepted).1.0
