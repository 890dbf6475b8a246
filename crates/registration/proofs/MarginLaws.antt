-- The search for a broken margin. The sums of an hour with the trade fit 32 bits, and the test by the net position as it is stored is the
-- definition's, by the sums of what was bought and sold. Only the trade's hours are searched: in a book the others break no margin.
use Rattle.std.specs.Prelude.{None, Some}
use Rattle.std.proofs.Common.{◌≡◌, ℕ, ◌+◌, ◌-◌, ◌^◌, ◌<◌, ◌≤◌, Bool, true, false, not, leb, List, [], ◌∷◌, ◌++◌, sym, refl, ap, ◌∙◌, add-zero, arith, le-leb, leb-true}
use mathlib.Core.Bool.{and-false}
use borrow.Author.Tests.{lt-leb}
use Rattle.rules.specs.declared.Margins.{Margins}
use Rattle.rules.specs.declared.AccountHour.{AccountHour}
use Rattle.rules.specs.declared.Row.{Row}
use Rattle.rules.specs.declared.Net.{Net}
use Rattle.rules.specs.Basics.{find, counting, Each}
use Rattle.rules.specs.Limits.{most_energy}
use Rattle.rules.specs.Books.{Setup, Book, periods, margins_at}
use Rattle.rules.specs.Registration.{pending, confirmed, includes_hour, bought, sold, net_of, pending_sales, pending_purchases, account_hour, after_trade, after_trades, keeps_margins, broken_by}
use Rattle.rules.proofs.Basics.Tests.{test_same}
use Rattle.rules.proofs.Rows.AccountHours.{hour_takes_all, nets_stay}
use Rattle.image.specs.Valid.{is_sound, book_in}
use Rattle.image.proofs.Sound.Soundness.{SoundRow}
use Rattle.book.specs.Members.{IsAccount, IsHour}
use Rattle.book.specs.Netted.{netted}
use Rattle.book.specs.Waits.{wait_cell, Waits, WaitsOf, tabled_hour, netted_hour}
use Rattle.book.proofs.StateLaws.{book_is_sound, row_count_high}
use Rattle.book.proofs.ReadingLaws.{net_near}
use Rattle.book.proofs.NettedLaws.{netted_difference}
use Rattle.book.proofs.WaitLaws.{side_hour}
use Rattle.registration.specs.Margins.{AccountTrade}
use Rattle.registration.proofs.SearchLaws.{find_span}

-- ---- what is read of a book

module _ (s : List ℕ) (h : is_sound s ≡ true) where
  -- the net position of an hour and the pending sums fit 32 bits, also with a trade more
  pub hour_room : (waits : List ℕ) (q a k : ℕ) (x : AccountHour) → IsAccount (book_in s) a → IsHour (book_in s) k
      → WaitsOf (book_in s).part.rows a waits → q ≤ most_energy → x ≡ netted_hour (book_in s).part.rows a k
      → (x.net.bought.0 + q < 2 ^ 32) × (x.net.sold.0 + q < 2 ^ 32) × (x.sales.0 + q < 2 ^ 32) × (x.purchases.0 + q < 2 ^ 32)
  unfolding netted
  hour_room waits q a k x i j w l e =
      let near = net_near s h a k i j in
      let few = row_count_high s h in
      let sales = w.waits_at 1 k (side_hour s h 1 k (omega arith) (omega arith) j) in
      let purchases = w.waits_at 2 k (side_hour s h 2 k (omega arith) (omega arith) j) in
      rw e (
        omega (arith, near.1),
        omega (arith, near.0),
        omega (arith, sales, w.bounded (wait_cell 1 k)),
        omega (arith, purchases, w.bounded (wait_cell 2 k)),
      )

-- a sound row is in range, and its proposer an account of the book
pub sound_account_trade : (b : Book) (r : Row) → SoundRow b.setup r → AccountTrade b r.proposer r
sound_account_trade b r s =
    record {
      account_known = (s.proposer_low, s.proposer_high);
      quantity_high = s.quantity_high;
      first_low = s.first_low;
      in_order = s.in_order;
      last_high = s.last_high;
    }

-- ---- an hour

-- two comparisons, where both sides of one differ from those of the other by the same
same-leb : (a b c d : ℕ) → a + d ≡ c + b → leb a b ≡ leb c d
same-leb a b c d e =
    test_same (leb a b) (leb c d)
    (λ t. let l = leb-true a b t in le-leb c d (omega arith))
    (λ t. let l = leb-true c d t in le-leb a b (omega arith))

-- hours with the same difference of bought and sold and the same pending sums keep the same margins
keeps_alike : (margins : Margins) (x y : AccountHour) → x.sales.0 ≡ y.sales.0 → x.purchases.0 ≡ y.purchases.0
    → x.net.bought.0 + y.net.sold.0 ≡ y.net.bought.0 + x.net.sold.0 → keeps_margins margins x ≡ keeps_margins margins y
unfolding keeps_margins
keeps_alike margins x y e d n =
    rw (
      same-leb (x.net.sold.0 + x.sales.0) (x.net.bought.0 + margins.lower.0) (y.net.sold.0 + y.sales.0) (y.net.bought.0 + margins.lower.0) (omega arith),
      same-leb (x.net.bought.0 + x.purchases.0) (x.net.sold.0 + margins.upper.0) (y.net.bought.0 + y.purchases.0) (y.net.sold.0 + margins.upper.0) (omega arith),
    )

-- so the stored net position keeps the margins that the sums keep
keeps_netted : (margins : Margins) (rows : List Row) (trade : Row) (a h : ℕ)
    → keeps_margins margins (after_trade a h (netted_hour rows a h) trade) ≡ keeps_margins margins (after_trade a h (account_hour rows a h) trade)
unfolding after_trade
keeps_netted margins rows trade a h =
    keeps_alike margins (after_trade a h (netted_hour rows a h) trade) (after_trade a h (account_hour rows a h) trade) refl refl
    (omega (arith, netted_difference (net_of rows a h)))

-- the same with pending rows more, whose sums the table has and which move no net
keeps_tabled : (margins : Margins) (rows added : List Row) (table : List ℕ) (a h : ℕ) → Each (λ r. pending r ≡ true) added → WaitsOf (rows ++ added) a table
    → Waits 1 h → Waits 2 h
    → keeps_margins margins (tabled_hour rows table a h) ≡ keeps_margins margins (after_trades a h (account_hour rows a h) added)
keeps_tabled margins rows added table a h waits w sales purchases =
    let net = nets_stay rows a h waits in
    keeps_alike margins (tabled_hour rows table a h) (account_hour (rows ++ added) a h) (w.waits_at 1 h sales) (w.waits_at 2 h purchases)
    (omega (arith, netted_difference (net_of rows a h), ap (λ (n : Net). n.bought.0) net, ap (λ (n : Net). n.sold.0) net))
    ∙ ap (keeps_margins margins) (hour_takes_all rows added a h)

-- the account breaks a margin in the hour after these rows
unfoldable pub breaks_with : Setup → List Row → List Row → ℕ → ℕ → Bool
breaks_with u rows added a h = not (keeps_margins (margins_at u a h) (after_trades a h (account_hour rows a h) added))

pub broken_by_hours : (u : Setup) (rows added : List Row) (a n : ℕ) → n ≡ periods u → broken_by u rows added a ≡ find (breaks_with u rows added a) (counting (n + 1 - 1) 1)
unfolding broken_by breaks_with
broken_by_hours u rows added a n e = let same : n + 1 - 1 ≡ n = omega arith in rw (same, e)

-- the test as code makes it
pub breaks_with_tested : (s : List ℕ) → is_sound s ≡ true → (added : List Row) (a h : ℕ) (table : List ℕ) (margins : Margins) (held : AccountHour) (t : Bool)
    → Each (λ r. pending r ≡ true) added → WaitsOf ((book_in s).part.rows ++ added) a table → IsHour (book_in s) h
    → margins ≡ margins_at (book_in s).setup a h → held ≡ tabled_hour (book_in s).part.rows table a h → t ≡ keeps_margins margins held
    → breaks_with (book_in s).setup (book_in s).part.rows added a h ≡ not t
unfolding breaks_with
breaks_with_tested s b added a h table margins held t waits w i eo eh et =
    ap not (sym (keeps_tabled (margins_at (book_in s).setup a h) (book_in s).part.rows added table a h waits w
    (side_hour s b 1 h (omega arith) (omega arith) i) (side_hour s b 2 h (omega arith) (omega arith) i)))
    ∙ rw (← eo, ← eh, ← et)

-- a trade does not change an hour that is not one of its own
takes_elsewhere : (rows : List Row) (trade : Row) (a h : ℕ) → includes_hour h trade ≡ false → after_trade a h (account_hour rows a h) trade ≡ account_hour rows a h
unfolding after_trade
takes_elsewhere rows trade a h e =
    rw (
      e,
      and-false (confirmed trade),
      and-false (pending trade),
      add-zero (bought rows a h),
      add-zero (sold rows a h),
      add-zero (pending_sales rows a h),
      add-zero (pending_purchases rows a h),
    )

module _ (s : List ℕ) (h : is_sound s ≡ true) (trade : Row) (a : ℕ) (t : AccountTrade (book_in s) a trade) where
  -- so it breaks no margin there: in a book none is broken
  kept_elsewhere : (k : ℕ) → 1 ≤ k → k ≤ periods (book_in s).setup → includes_hour k trade ≡ false → breaks_with (book_in s).setup (book_in s).part.rows (trade ∷ []) a k ≡ false
  unfolding breaks_with
  kept_elsewhere k l m e = rw (takes_elsewhere (book_in s).part.rows trade a k e, (book_is_sound s h).part_sound.keeps_margins a k t.account_known.0 t.account_known.1 l m)

  -- the lowest broken hour is one of the trade's
  pub broken_by_span : broken_by (book_in s).setup (book_in s).part.rows (trade ∷ []) a
      ≡ find (breaks_with (book_in s).setup (book_in s).part.rows (trade ∷ []) a) (counting (trade.last + 1 - trade.first) trade.first)
  unfolding broken_by breaks_with
  broken_by_span =
      find_span (breaks_with (book_in s).setup (book_in s).part.rows (trade ∷ []) a) (periods (book_in s).setup) trade.first trade.last t.first_low t.in_order t.last_high
      (λ k m n. kept_elsewhere k m (omega (arith, t.in_order, t.last_high)) (rw (lt-leb trade.first k n)))
      (λ k m n. kept_elsewhere k (omega (arith, t.first_low, t.in_order)) n (rw (lt-leb k trade.last m, and-false (leb trade.first k))))

-- the test as code makes it
pub breaks_tested : (u : Setup) (rows : List Row) (trade : Row) (a h : ℕ) (margins : Margins) (held after : AccountHour) (t : Bool)
    → margins ≡ margins_at u a h → held ≡ netted_hour rows a h → after ≡ after_trade a h held trade → t ≡ keeps_margins margins after
    → breaks_with u rows (trade ∷ []) a h ≡ not t
unfolding breaks_with
breaks_tested u rows trade a h margins held after t eo eh ea et =
    ap not (sym (keeps_netted (margins_at u a h) rows trade a h)) ∙ rw (← eo, ← eh, ← ea, ← et)

-- ---- what the search says

-- of a trade that is this one
pub found_hour : (u : Setup) (rows : List Row) (trade other : Row) (a h : ℕ) → trade ≡ other → Some h ≡ broken_by u rows (trade ∷ []) a
    → broken_by u rows (other ∷ []) a ≡ Some h
found_hour u rows trade other a h e f = sym (rw e at f)

pub found_nowhere : (u : Setup) (rows : List Row) (trade other : Row) (a : ℕ) → trade ≡ other → None ≡ broken_by u rows (trade ∷ []) a
    → broken_by u rows (other ∷ []) a ≡ None
found_nowhere u rows trade other a e f = sym (rw e at f)
