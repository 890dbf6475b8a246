-- What eases an account hour: low no lower, high no higher, no more exposed. Margins that were kept are then kept, and an operator that
-- was covered is covered. Rows that wait and are not there ease every account.
use Rattle.std.specs.Prelude.{if◌then◌else◌, None}
use Prim.Native.Nat.{ℕ, ◌+◌, ◌*◌, ◌≤◌}
use mathlib.Core.Path.{◌≡◌, refl}
use mathlib.Core.List.{List, [], ◌∷◌, ◌++◌}
use mathlib.Core.Bool.{Bool, true, false}
use native.Mathlib.Nat.{mul-le-mul_left}
use native.Mathlib.Omega.{arith}
use lib.Dec.{eqb}
use lib.IntN.{sub_ℕ}
use lib.Signed.{◌≤ℤ◌}
use borrow.Author.Tests.{eqb-true, leb-true, le-leb, not-false}
use Rattle.units.specs.declared.Cents.{Cents}
use Rattle.units.specs.declared.CentsPerMwh.{CentsPerMwh}
use Rattle.rules.specs.declared.Margins.{Margins}
use Rattle.rules.specs.declared.Row.{Row}
use Rattle.rules.specs.declared.AccountHour.{AccountHour}
use Rattle.rules.specs.Basics.{total, up_to, Each}
use Rattle.rules.specs.Books.{Setup, account_count, estimate_at, operator_of, periods, margins_at}
use Rattle.rules.specs.Registration.{pending, seller, buyer, counted, pending_of, waiting, account_hour, low, high, keeps_margins, broken_hour, exposed, of_operator, exposure_of, exposure, available, covered}
use Rattle.rules.proofs.Basics.Tests.{and_both}
use Rattle.rules.proofs.Basics.Searches.{each_map, find_none, none_find}
use Rattle.rules.proofs.Basics.Totals.{total_append}
use Rattle.rules.proofs.Basics.Differences.{difference_order, order_by, difference_more, difference_less}
use Rattle.rules.proofs.Rows.AccountHours.{moved_added}

-- ---- one account hour and the next, in natural numbers

pub record Eased (x y : AccountHour) : Type 0 where
  pub low_no_lower : y.net.sold.0 + y.sales.0 + x.net.bought.0 ≤ x.net.sold.0 + x.sales.0 + y.net.bought.0
  pub high_no_higher : y.net.bought.0 + y.purchases.0 + x.net.sold.0 ≤ x.net.bought.0 + x.purchases.0 + y.net.sold.0
  pub no_more_exposed : exposed y ≤ exposed x

-- what stands is eased
pub eased_refl : (x : AccountHour) → Eased x x
eased_refl x = record { low_no_lower = omega arith; high_no_higher = omega arith; no_more_exposed = omega arith }

-- the same of the paper's signed figures
difference_le : (a b c d : ℕ) → a + d ≤ c + b → sub_ℕ a b ≤ℤ sub_ℕ c d
difference_le a b c d h = (order_by (sub_ℕ a b) (sub_ℕ c d) _ (difference_order a b c d)).0 (le-leb (a + d) (c + b) h)

pub eased_low : (x y : AccountHour) → Eased x y → low x ≤ℤ low y
eased_low x y e =
    simp difference_less
    (difference_le
    x.net.bought.0
    (x.net.sold.0 + x.sales.0)
    y.net.bought.0
    (y.net.sold.0 + y.sales.0)
    (omega (arith, e.low_no_lower)))

pub eased_high : (x y : AccountHour) → Eased x y → high y ≤ℤ high x
eased_high x y e =
    simp difference_more
    (difference_le
    (y.net.bought.0 + y.purchases.0)
    y.net.sold.0
    (x.net.bought.0 + x.purchases.0)
    x.net.sold.0
    (omega (arith, e.high_no_higher)))

margins_true : (margins : Margins) (x : AccountHour) → keeps_margins margins x ≡ true
    → (x.net.sold.0 + x.sales.0 ≤ x.net.bought.0 + margins.lower.0)
    × (x.net.bought.0 + x.purchases.0 ≤ x.net.sold.0 + margins.upper.0)
unfolding keeps_margins
margins_true margins x h = let w = (and_both _ _).0 h in (leb-true _ _ w.0, leb-true _ _ w.1)

-- margins that were kept are kept
pub eased_margins : (margins : Margins) (x y : AccountHour) → Eased x y → keeps_margins margins x ≡ true → keeps_margins margins y ≡ true
unfolding keeps_margins
eased_margins margins x y e h =
    let (l, u) = margins_true margins x h in
    rw (
      le-leb (y.net.sold.0 + y.sales.0) (y.net.bought.0 + margins.lower.0) (omega (arith, e.low_no_lower)),
      le-leb (y.net.bought.0 + y.purchases.0) (y.net.sold.0 + margins.upper.0) (omega (arith, e.high_no_higher)),
    )

-- and an account that broke none breaks none
pub eased_unbroken : (u : Setup) (rows later : List Row) (a : ℕ) → ((h : ℕ) → Eased (account_hour rows a h) (account_hour later a h))
    → broken_hour u rows a ≡ None → broken_hour u later a ≡ None
unfolding broken_hour
eased_unbroken u rows later a eased kept =
    none_find _ (each_map (λ h w. rw (eased_margins (margins_at u a h) _ _ (eased h) (not-false _ w))) (find_none _ (up_to (periods u)) kept))

-- ---- an operator

total_le : (f g : ℕ → ℕ) (xs : List ℕ) → ((x : ℕ) → f x ≤ g x) → total f xs ≤ total g xs
unfolding total
total_le f g [] h = omega arith
total_le f g (x ∷ xs) h = omega (arith, h x, total_le f g xs h)

-- where an operator's accounts are exposed no more in any hour, neither is it
pub no_more_exposure : (u : Setup) (prices : ℕ → CentsPerMwh) (before after : ℕ → ℕ → AccountHour) (o : ℕ)
    → ((a h : ℕ) → operator_of u a ≡ o → exposed (after a h) ≤ exposed (before a h))
    → exposure_of u prices after o ≤ exposure_of u prices before o
unfolding exposure_of of_operator
no_more_exposure u prices before after o no_more = total_le _ _ (up_to (account_count u)) (λ a. go a (eqb (operator_of u a) o) refl)
  where
    go : (a : ℕ) (t : Bool) → eqb (operator_of u a) o ≡ t
        → (if t then total (λ h. (prices h).0 * exposed (after a h)) (up_to (periods u)) else 0)
        ≤ (if t then total (λ h. (prices h).0 * exposed (before a h)) (up_to (periods u)) else 0)
    go a true w = total_le _ _ (up_to (periods u)) (λ h. mul-le-mul_left (prices h).0 (no_more a h (eqb-true _ _ w)))
    go a false w = omega arith

-- so it is where they are all eased
pub eased_exposure : (u : Setup) (rows later : List Row) (o : ℕ)
    → ((a h : ℕ) → operator_of u a ≡ o → Eased (account_hour rows a h) (account_hour later a h))
    → exposure u later o ≤ exposure u rows o
eased_exposure u rows later o eased =
    no_more_exposure u (estimate_at u) (account_hour rows) (account_hour later) o (λ a h owns. (eased a h owns).no_more_exposed)

-- and covered if it was
pub eased_covered : (u : Setup) (gs : List Cents) (rows later : List Row) (o : ℕ)
    → ((a h : ℕ) → operator_of u a ≡ o → Eased (account_hour rows a h) (account_hour later a h))
    → covered u (record { guarantees = gs; rows = rows }) o ≡ true
    → covered u (record { guarantees = gs; rows = later }) o ≡ true
unfolding covered available
eased_covered u gs rows later o eased h =
    le-leb (exposure u later o) (available u (record { guarantees = gs; rows = later }) o)
    (omega (arith, leb-true (exposure u rows o) (available u (record { guarantees = gs; rows = rows }) o) h, eased_exposure u rows later o eased))

-- ---- rows that wait

pub waiting-append : (side : ℕ) (rows more : List Row) (a h : ℕ) → waiting side (rows ++ more) a h ≡ waiting side rows a h + waiting side more a h
unfolding waiting
waiting-append side rows more a h = total_append (counted (pending_of side a h)) rows more

-- without the last of them every account is eased
pub fewer_ease : (rows : List Row) {more : List Row} (a h : ℕ) → Each (λ r. pending r ≡ true) more
    → Eased (account_hour (rows ++ more) a h) (account_hour rows a h)
fewer_ease rows {more} a h e =
    let b = moved_added buyer a h rows e in
    let s = moved_added seller a h rows e in
    let x = waiting-append 1 rows more a h in
    let y = waiting-append 2 rows more a h in
    record { low_no_lower = omega arith; high_no_higher = omega arith; no_more_exposed = omega arith }
