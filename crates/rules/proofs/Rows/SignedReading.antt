-- The tests on natural numbers are the paper's signed statements: a figure is the difference of what was bought and what was
-- sold.
use Rattle.std.specs.Prelude.{if◌then◌else◌}
use Prim.Native.Nat.{ℕ, suc, ◌+◌, ◌-◌, ◌≤◌}
use mathlib.Core.Path.{◌≡◌, refl, sym, ap, ◌∙◌}
use mathlib.Core.Logic.{◌↔◌}
use mathlib.Core.List.{List}
use mathlib.Core.Bool.{Bool, true, false, cond}
use native.Mathlib.Nat.{zero-add, add-zero, add_comm}
use native.Mathlib.Omega.{arith}
use lib.Dec.{leb, ltb}
use lib.IntN.{pos, negsuc, neg_ℤ}
use lib.Signed.{◌≤ℤ◌}
use borrow.Author.Tests.{ltb-true, leb-true, le-leb}
use Rattle.units.specs.declared.CentsPerMwh.{CentsPerMwh}
use Rattle.units.specs.Units.{kwh}
use Rattle.rules.specs.declared.Margins.{Margins}
use Rattle.rules.specs.declared.Net.{Net}
use Rattle.rules.specs.declared.AccountHour.{AccountHour}
use Rattle.rules.specs.declared.Position.TheVariants.{Long, Short}
use Rattle.rules.specs.declared.Schedule.{Schedule}
use Rattle.rules.specs.Books.{Setup}
use Rattle.rules.specs.Registration.{figure, low, high, keeps_margins, exposed}
use Rattle.rules.specs.Settlement.{injects, account_of, account_limit}
use Rattle.rules.specs.Readings.{position, position_figure}
use Rattle.rules.proofs.Basics.Tests.{and_both}
use Rattle.rules.proofs.Basics.Differences.{difference_order, order_by, difference_pos, difference_neg, difference_more, difference_less, difference_negated, difference_or_zero, or_zero, shortfall}

-- ---- margins

module _ (n : Net) where
  -- minus lower margin ≤ net
  pub net_above : (lower : ℕ) → (leb n.sold.0 (n.bought.0 + lower) ≡ true) ↔ (neg_ℤ (pos lower) ≤ℤ figure n)
  net_above lower =
      order_by (neg_ℤ (pos lower)) (figure n) _
      (rw (difference_neg lower) (difference_order 0 lower n.bought.0 n.sold.0 ∙ rw zero-add))

  -- net ≤ upper margin
  pub net_below : (upper : ℕ) → (leb n.bought.0 (n.sold.0 + upper) ≡ true) ↔ (figure n ≤ℤ pos upper)
  net_below upper =
      order_by (figure n) (pos upper) _
      (rw (difference_pos upper) (difference_order n.bought.0 n.sold.0 upper 0 ∙ rw (add-zero, add_comm upper)))

module _ (x : AccountHour) where
  -- minus lower margin ≤ low
  pub keeps_lower_margin : (lower : ℕ)
      → (leb (x.net.sold.0 + x.sales.0) (x.net.bought.0 + lower) ≡ true) ↔ (neg_ℤ (pos lower) ≤ℤ low x)
  keeps_lower_margin lower =
      rw difference_less (net_above (record { bought = x.net.bought; sold = kwh (x.net.sold.0 + x.sales.0) }) lower)

  -- high ≤ upper margin
  pub keeps_upper_margin : (upper : ℕ)
      → (leb (x.net.bought.0 + x.purchases.0) (x.net.sold.0 + upper) ≡ true) ↔ (high x ≤ℤ pos upper)
  keeps_upper_margin upper =
      rw difference_more (net_below (record { bought = kwh (x.net.bought.0 + x.purchases.0); sold = x.net.sold }) upper)

-- minus lower margin ≤ low, high ≤ upper margin
pub keeps_margins-signed : (margins : Margins) (x : AccountHour)
    → (keeps_margins margins x ≡ true) ↔ ((neg_ℤ (pos margins.lower.0) ≤ℤ low x) × (high x ≤ℤ pos margins.upper.0))
unfolding keeps_margins
keeps_margins-signed margins x =
    let l = keeps_lower_margin x margins.lower.0 in
    let u = keeps_upper_margin x margins.upper.0 in
    let b = and_both
    (leb (x.net.sold.0 + x.sales.0) (x.net.bought.0 + margins.lower.0))
    (leb (x.net.bought.0 + x.purchases.0) (x.net.sold.0 + margins.upper.0)) in
    ((λ e. (l.0 (b.0 e).0, u.0 (b.0 e).1)), (λ h. b.1 (l.1 h.0, u.1 h.1)))

-- net itself is within them: low is at most net, high at least net
pub net_keeps_margins : (margins : Margins) (x : AccountHour) → keeps_margins margins x ≡ true
    → (neg_ℤ (pos margins.lower.0) ≤ℤ figure x.net) × (figure x.net ≤ℤ pos margins.upper.0)
unfolding keeps_margins
net_keeps_margins margins x h =
    let n = x.net in
    let b = (and_both
    (leb (n.sold.0 + x.sales.0) (n.bought.0 + margins.lower.0))
    (leb (n.bought.0 + x.purchases.0) (n.sold.0 + margins.upper.0))).0 h in
    let l : n.sold.0 + x.sales.0 ≤ n.bought.0 + margins.lower.0 = leb-true _ _ b.0 in
    let u : n.bought.0 + x.purchases.0 ≤ n.sold.0 + margins.upper.0 = leb-true _ _ b.1 in (
      (net_above n margins.lower.0).0 (le-leb n.sold.0 (n.bought.0 + margins.lower.0) (omega arith)),
      (net_below n margins.upper.0).0 (le-leb n.bought.0 (n.sold.0 + margins.upper.0) (omega arith)),
    )

-- ---- what net lies below zero, the reading of a net position, the account's limit

-- what exposure counts of a net position
pub below_zero : (n : Net) → n.sold.0 - n.bought.0 ≡ shortfall (figure n)
below_zero n = sym (rw difference_negated (difference_or_zero n.sold.0 n.bought.0))

-- the sum of what net lies below zero and the account's own pending sales in full
pub exposed-signed : (x : AccountHour) → exposed x ≡ shortfall (figure x.net) + x.sales.0
exposed-signed x = ap (λ (n : ℕ). n + x.sales.0) (below_zero x.net)

figure_go : (b s : ℕ) (t : Bool) → ltb b s ≡ t
    → position_figure (if t then Short (kwh (s - b)) else Long (kwh (b - s))) ≡ cond t (negsuc (s - suc b)) (pos (b - s))
figure_go b s true e =
    let l = ltb-true b s e in let d : s - b ≡ suc (s - suc b) = omega arith in ap (λ (n : ℕ). neg_ℤ (pos n)) d
figure_go b s false e = refl

-- a position reads as the net that it was made of
pub position-figure : (n : Net) → position_figure (position n) ≡ figure n
unfolding position
position-figure n = figure_go n.bought.0 n.sold.0 (ltb n.bought.0 n.sold.0) refl

limit_go : (n : Net) (t : Bool)
    → (if t then n.sold.0 - n.bought.0 else n.bought.0 - n.sold.0)
    ≡ (if t then or_zero (neg_ℤ (figure n)) else or_zero (figure n))
limit_go n true = below_zero n
limit_go n false = sym (difference_or_zero n.bought.0 n.sold.0)

-- minus net for injections and net for withdrawals, or 0
pub account_limit_lem : (u : Setup) (net : ℕ → ℕ → Net) (t : List CentsPerMwh) (x : Schedule)
    → account_limit u net t x
    ≡ (let n = net (account_of u net t x) x.hour in
    if injects u net t x then or_zero (neg_ℤ (figure n)) else or_zero (figure n))
account_limit_lem u net t x = limit_go (net (account_of u net t x) x.hour) (injects u net t x)
