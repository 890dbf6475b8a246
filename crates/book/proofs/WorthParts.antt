-- The two parts of an exposure as loops work them out: sums of estimated prices, hour by hour, and pending sales, row by row.
use Rattle.std.specs.Prelude.{if◌then◌else◌}
use Prim.Native.Nat.{ℕ, zero, suc, ◌+◌, ◌-◌, ◌*◌, ◌≤◌, ◌<◌}
use mathlib.Core.Path.{◌≡◌, refl, sym, ap, ◌∙◌}
use mathlib.Core.List.{List, [], ◌∷◌}
use mathlib.Core.Bool.{Bool, true, false, not, ◌&&◌, ◌||◌}
use mathlib.Core.Logic.{⊎_elim}
use native.Mathlib.Nat.{add-zero, mul-le-mul}
use native.Mathlib.Omega.{arith}
use lib.ListN.{length, get_or, set, drop, length-set}
use lib.Seq.{get_or-set_other, get_or-set_same, drop-cons, drop-length}
use lib.Dec.{eqb}
use borrow.Author.Tests.{eq-eqb, ne_eqb}
use Rattle.units.specs.declared.CentsPerMwh.{CentsPerMwh}
use Rattle.units.specs.Units.{cents_per_mwh}
use Rattle.rules.specs.declared.Counts.{Counts}
use Rattle.rules.specs.declared.Row.{Row}
use Rattle.rules.specs.Basics.{total, nth, counting, up_to, within, Each}
use Rattle.rules.specs.Limits.{most_energy, most_price, most_hours}
use Rattle.rules.specs.Books.{Setup, no_row, estimate_at, operator_of, account_count, periods}
use Rattle.rules.specs.Opening.{counts_in, estimates_in, setup_of}
use Rattle.rules.specs.Registration.{pending, exposure, exposure_with}
use Rattle.rules.proofs.Basics.Searches.{each_map}
use Rattle.rules.proofs.Basics.Tests.{within_true}
use Rattle.rules.proofs.Basics.Totals.{total_zero, total_last, total_up_to}
use Rattle.rules.proofs.Basics.Differences.{lt_or_ge}
use Rattle.image.specs.Valid.{is_sound, book_in}
use Rattle.image.proofs.Sound.Soundness.{SoundRow}
use Rattle.image.proofs.Tables.MoneyLaws.{price_most}
use Rattle.book.specs.Members.{IsAccount}
use Rattle.book.specs.Worth.{AccountOperators, short_worth, span_price, sale_worth, PriceSums, PricedSpan, SaleInputs, TradeInRange, net_with, operators_size, sums_size, most_price_sum, most_sale_worth}
use Rattle.book.proofs.BookRows.{counts_in_lem, setup_in_lem, estimates_in_lem, values_in}
use Rattle.book.proofs.StateLaws.{book_is_sound}
use Rattle.book.proofs.WorthLaws.{Known, exposure_split}

-- ---- prices

module _ (s : List ℕ) (k : is_sound s ≡ true) where
  pub hours_in : (counts_in s).hours ≡ periods (book_in s).setup
  hours_in = sym (ap (λ (n : Counts). n.hours) (counts_in_lem s k))

  pub accounts_in_lem : (counts_in s).accounts ≡ account_count (book_in s).setup
  accounts_in_lem = sym (ap (λ (n : Counts). n.accounts) (counts_in_lem s k))

  -- an estimate that was read
  pub estimate_stands : (h : ℕ) (p : CentsPerMwh) → p ≡ nth (estimates_in s) h (cents_per_mwh 0) → (p ≡ estimate_at (book_in s).setup h) × (p.0 ≤ most_price)
  unfolding setup_of
  estimate_stands h p e = (e ∙ sym (ap (λ (u : Setup). estimate_at u h) (setup_in_lem s k)), rw e (price_most (estimates_in_lem s k) h))

  pub cheap_in : Each (λ p. p.0 ≤ most_price) (book_in s).setup.estimates
  cheap_in = (values_in s k).estimates_sound

-- the estimated prices of the hours 1 to n together
abbrev pub prices : Setup → ℕ → ℕ
prices u n = total (λ h. (estimate_at u h).0) (up_to n)

-- the entries below n are such sums
pub record SummedTo (u : Setup) (sums : List ℕ) (n : ℕ) : Type 0 where
  pub whole : length sums ≡ sums_size
  pub sum : (k : ℕ) → k < n → get_or sums k 0 ≡ prices u k

prices_next : (u : Setup) (n : ℕ) → prices u (suc n) ≡ prices u n + (estimate_at u (suc n)).0
prices_next u n =
    let e : 1 + n ≡ suc n = omega arith in total_last (λ h. (estimate_at u h).0) n 1 ∙ rw e

pub prices_most : (u : Setup) → Each (λ p. p.0 ≤ most_price) u.estimates → (n : ℕ) → prices u n ≤ n * most_price
unfolding total counting
prices_most u cheap zero = omega arith
prices_most u cheap (suc n) = omega (arith, prices_next u n, price_most cheap (suc n), prices_most u cheap n)

pub summed_first : (u : Setup) (sums : List ℕ) → length sums ≡ sums_size → SummedTo u (set sums 0 0) 1
unfolding total counting
summed_first u [] e = absurd (omega arith)
summed_first u (x ∷ xs) e = record { whole = e; sum = go }
  where
    go : (k : ℕ) → k < 1 → get_or (0 ∷ xs) k 0 ≡ prices u k
    go zero l = refl
    go (suc k) l = absurd (omega arith)

pub summed_next : (u : Setup) (sums : List ℕ) (h v : ℕ) → 1 ≤ h → h ≤ most_hours → v ≡ get_or sums (h - 1) 0 + (estimate_at u h).0 → SummedTo u sums h
    → SummedTo u (set sums h v) (h + 1)
summed_next u sums zero v low high e t = absurd (omega arith)
summed_next u sums (suc i) v low high e t =
    record {
      whole = rw length-set t.whole;
      sum = λ k l.
          ⊎_elim
          (λ (w : k < suc i). get_or-set_other sums (suc i) k _ 0 (λ z. omega arith) ∙ t.sum k w)
          (λ (w : suc i ≤ k).
          let same : k ≡ suc i = omega arith in
          let here : suc i - 1 ≡ i = omega arith in
          let before : get_or sums (suc i - 1) 0 ≡ prices u i = rw here (t.sum i (omega arith)) in
          rw same (get_or-set_same sums (suc i) v 0 (omega (arith, t.whole)) ∙ omega (arith, before, prices_next u i)))
          (lt_or_ge k (suc i));
    }

pub summed_done : (u : Setup) (sums : List ℕ) (n : ℕ) → periods u < n → SummedTo u sums n → PriceSums u sums
summed_done u sums n l t = record { whole = t.whole; sum = λ k h. t.sum k (omega arith) }

-- ---- entries by number, and the accounts' operators

-- the entries of the numbers from 1 up to n are what f says
pub record Listed (f : ℕ → ℕ) (size : ℕ) (xs : List ℕ) (n : ℕ) : Type 0 where
  pub whole : length xs ≡ size
  pub entry : (k : ℕ) → 1 ≤ k → k < n → get_or xs k 0 ≡ f k

module _ (f : ℕ → ℕ) (size : ℕ) (xs : List ℕ) where
  pub listed_first : length xs ≡ size → Listed f size xs 1
  listed_first e = record { whole = e; entry = λ k low high. absurd (omega arith) }

  pub listed_next : (n v : ℕ) → n < size → v ≡ f n → Listed f size xs n → Listed f size (set xs n v) (n + 1)
  listed_next n v high e t =
      record {
        whole = rw length-set t.whole;
        entry = λ k low l.
            ⊎_elim
            (λ (w : k < n). get_or-set_other xs n k _ 0 (λ z. omega arith) ∙ t.entry k low w)
            (λ (w : n ≤ k). let same : k ≡ n = omega arith in rw same (get_or-set_same xs n v 0 (omega (arith, t.whole)) ∙ e))
            (lt_or_ge k n);
      }

pub operators_listed : (u : Setup) (operators : List ℕ) (n : ℕ) → account_count u < n → Listed (operator_of u) operators_size operators n → AccountOperators u operators
operators_listed u operators n l t = record { whole = t.whole; operator = λ a low high. t.entry a low (omega arith) }

-- an account of a book has its entry
pub operator_listed : (s operators : List ℕ) (a : ℕ) → is_sound s ≡ true → AccountOperators (book_in s).setup operators → IsAccount (book_in s) a
    → a < length operators
operator_listed s operators a k t own = omega (arith, t.whole, own.1, (book_is_sound s k).setup_sound.accounts_high)

-- ---- a row's hours

module _ (price : ℕ → ℕ) (first last : ℕ) where
  abbrev inside : ℕ → ℕ
  inside h = if within first h last then price h else 0

  inside_on : (h : ℕ) → first ≤ h → h ≤ last → inside h ≡ price h
  inside_on h l m = rw ((within_true first h last).1 (l, m))

  inside_off : (h : ℕ) → ((first ≤ h) × (h ≤ last) → ⊥) → inside h ≡ 0
  inside_off h out = go (within first h last) refl
    where
      go : (t : Bool) → within first h last ≡ t → (if t then price h else 0) ≡ 0
      go true e = absurd (out ((within_true first h last).0 e))
      go false e = refl

  step : (f : ℕ → ℕ) (n : ℕ) → total f (up_to (suc n)) ≡ total f (up_to n) + f (suc n)
  step f n = let e : 1 + n ≡ suc n = omega arith in total_last f n 1 ∙ rw e

  -- nothing before the first hour
  before_none : (n : ℕ) → n < first → total inside (up_to n) ≡ 0
  before_none n l = total_up_to inside (λ h. 0) n (λ h low high. inside_off h (λ w. omega arith)) ∙ total_zero (up_to n)

  -- each hour up to the last
  within_all : (g m : ℕ) → first ≡ suc g → g + m ≤ last → total inside (up_to (g + m)) + total price (up_to g) ≡ total price (up_to (g + m))
  within_all g zero e l = rw (add-zero g) (omega (arith, before_none g (omega arith)))
  within_all g (suc m) e l =
      let next : g + suc m ≡ suc (g + m) = omega arith in
      rw next (omega (arith, step inside (g + m), step price (g + m), inside_on (suc (g + m)) (omega arith) (omega arith), within_all g m e (omega arith)))

  -- and nothing after it
  after_none : (m : ℕ) → total inside (up_to (last + m)) ≡ total inside (up_to last)
  after_none zero = rw (add-zero last)
  after_none (suc m) =
      let next : last + suc m ≡ suc (last + m) = omega arith in
      rw next (omega (arith, step inside (last + m), inside_off (suc (last + m)) (λ w. omega arith), after_none m))

  span_sum : (n : ℕ) → 1 ≤ first → first ≤ last → last ≤ n → total inside (up_to n) + total price (up_to (first - 1)) ≡ total price (up_to last)
  span_sum n low order high =
      let whole : last + (n - last) ≡ n = omega arith in
      let upto : (first - 1) + (last - (first - 1)) ≡ last = omega arith in
      let a = rw whole at (after_none (n - last)) in
      let b = rw upto at (within_all (first - 1) (last - (first - 1)) (omega arith) (omega arith)) in
      omega arith

-- what the sums say of a row's hours
pub record Spanned (u : Setup) (sums : List ℕ) (r : Row) : Type 0 where
  pub priced : PricedSpan sums r.first r.last r.quantity.0
  pub exact : get_or sums r.last 0 - get_or sums (r.first - 1) 0 ≡ span_price u r

pub spanned : (s sums operators : List ℕ) (r : Row) → SaleInputs s sums operators → TradeInRange (book_in s).setup r → pending r ≡ true
    → Spanned (book_in s).setup sums r
unfolding span_price
spanned s sums operators r i t p =
    let u = (book_in s).setup in
    let k = t.hours_known p in
    let whole = span_sum (λ h. (estimate_at u h).0) r.first r.last (periods u) k.0 k.1 k.2 in
    let end = i.price_sums.sum r.last k.2 in
    let start = i.price_sums.sum (r.first - 1) (omega arith) in
    let most = prices_most u (cheap_in s i.is_sound) r.last in
    let short = (book_is_sound s i.is_sound).setup_sound.hours_high in
    record {
      priced = record {
        whole = i.price_sums.whole;
        first_low = k.0;
        in_order = k.1;
        last_high = omega arith;
        sums_in_order = omega arith;
        sums_high = omega arith;
        quantity_high = t.quantity_high;
      };
      exact = omega arith;
    }

-- ---- pending sales

-- both tests hold where neither fails
both_hold : (x y : Bool) → not x || not y ≡ false → x && y ≡ true
both_hold true true e = refl
both_hold true false e = sym e
both_hold false y e = sym e

first_holds : (x y : Bool) → not x || not y ≡ false → x ≡ true
first_holds true y e = refl
first_holds false y e = sym e

pub sale_waits : (r : Row) → not (pending r) || not (eqb r.side 1) ≡ false → pending r ≡ true
sale_waits r e = first_holds (pending r) (eqb r.side 1) e

pub sale_skipped : (u : Setup) (o : ℕ) (r : Row) → not (pending r) || not (eqb r.side 1) ≡ true → sale_worth u o r ≡ 0
unfolding sale_worth
sale_skipped u o r e = go (pending r) (eqb r.side 1) (eqb (operator_of u r.proposer) o) e
  where
    go : (x y z : Bool) → not x || not y ≡ true → (if x && y && z then r.quantity.0 * span_price u r else 0) ≡ 0
    go true true z e = let w : false ≡ true = e in let v : ◌≡◌ {A = ℕ} 0 1 = cc in absurd (omega arith)
    go true false z e = refl
    go false y z e = refl

pub sale_of_others : (u : Setup) (o : ℕ) (r : Row) (x : ℕ) → x ≡ operator_of u r.proposer → (x ≡ o → ⊥) → sale_worth u o r ≡ 0
unfolding sale_worth
sale_of_others u o r x d n = rw (ne_eqb (operator_of u r.proposer) o (λ f. n (d ∙ f))) (go (pending r) (eqb r.side 1))
  where
    go : (x y : Bool) → (if x && y && false then r.quantity.0 * span_price u r else 0) ≡ 0
    go true true = refl
    go true false = refl
    go false y = refl

sale_of_own : (u : Setup) (o : ℕ) (r : Row) (x : ℕ) → not (pending r) || not (eqb r.side 1) ≡ false → x ≡ operator_of u r.proposer → x ≡ o
    → sale_worth u o r ≡ r.quantity.0 * span_price u r
unfolding sale_worth
sale_of_own u o r x e d n = rw (both_hold (pending r) (eqb r.side 1) e, eq-eqb (operator_of u r.proposer) o (sym d ∙ n))

-- a quantity in range at prices in range
pub span_most : (q p : ℕ) → q ≤ most_energy → p ≤ most_price_sum → q * p ≤ most_sale_worth
span_most q p a b = mul-le-mul a b

-- a sale of the operator's, by the sums of its hours
pub sale_priced : (u : Setup) (o : ℕ) (sums : List ℕ) (r : Row) (x m : ℕ) → Spanned u sums r
    → not (pending r) || not (eqb r.side 1) ≡ false → x ≡ operator_of u r.proposer → x ≡ o
    → m ≡ r.quantity.0 * (get_or sums r.last 0 - get_or sums (r.first - 1) 0) → (m ≡ sale_worth u o r) × (m ≤ most_sale_worth)
sale_priced u o sums r x m t e d n f = (
  f ∙ ap (λ (y : ℕ). r.quantity.0 * y) t.exact ∙ sym (sale_of_own u o r x e d n),
  omega (arith, f, span_most r.quantity.0 (get_or sums r.last 0 - get_or sums (r.first - 1) 0) t.priced.quantity_high (omega (arith, t.priced.sums_high))),
)

-- a sound row can be added
pub sound_row_in_range : (u : Setup) (r : Row) → SoundRow u r → TradeInRange u r
sound_row_in_range u r s =
    record {
      quantity_high = s.quantity_high;
      proposer_known = λ e. (s.proposer_low, s.proposer_high);
      hours_known = λ e. (s.first_low, s.in_order, s.last_high);
    }

-- a sum over rows, number by number
module _ (f : Row → ℕ) where
  pub rows_next : (rows : List Row) (n sum share more whole : ℕ) → 1 ≤ n → n ≤ length rows → more ≡ sum + share → share ≡ f (nth rows n no_row)
      → sum + total f (drop (n - 1) rows) ≡ whole → more + total f (drop (n + 1 - 1) rows) ≡ whole
  unfolding total
  rows_next rows zero sum share more whole low high e d h = absurd (omega arith)
  rows_next rows (suc i) sum share more whole low high e d h =
      let here : suc i - 1 ≡ i = omega arith in
      let next : suc i + 1 - 1 ≡ suc i = omega arith in
      let split : total f (drop i rows) ≡ f (get_or rows i no_row) + total f (drop (suc i) rows) = rw (drop-cons rows i no_row (omega arith)) in
      let w : sum + total f (drop i rows) ≡ whole = rw here at h in
      rw next (omega arith)

  pub rows_done : (rows : List Row) (n sum whole : ℕ) → n ≡ length rows → sum + total f (drop n rows) ≡ whole → sum ≡ whole
  unfolding total
  rows_done rows n sum whole e h =
      let w : sum + total f [] ≡ whole = rw (e, drop-length rows) at h in omega arith

-- ---- the exposure

-- the proposers of a book's rows are its accounts
pub rows_known : (s : List ℕ) → is_sound s ≡ true → (o : ℕ) → Each (Known (book_in s).setup o) (book_in s).part.rows
rows_known s k o = each_map (λ r w p. (w.proposer_low, w.proposer_high)) (book_is_sound s k).part_sound.rows_sound

-- it is the sum of three parts, added one after the other
pub exposure_joined : (s : List ℕ) → is_sound s ≡ true → (o : ℕ) (added : List Row) → Each (TradeInRange (book_in s).setup) added → (below waits own two three : ℕ)
    → below ≡ short_worth (book_in s).setup (net_with (book_in s).part.rows added) o → waits ≡ total (sale_worth (book_in s).setup o) (book_in s).part.rows
    → own ≡ total (sale_worth (book_in s).setup o) added → two ≡ below + waits → three ≡ two + own
    → three ≡ exposure_with (book_in s).setup (book_in s).part.rows added o
exposure_joined s k o added t below waits own two three e d f g h =
    h
    ∙ rw (g, e, d, f)
    (sym (exposure_split (book_in s).setup o (book_in s).part.rows added (rows_known s k o) (each_map (λ r w. w.proposer_known) t)))

-- the quantities that are added are in range
pub trade_quantity : (u : Setup) {added : List Row} → Each (TradeInRange u) added → Each (λ r. r.quantity.0 ≤ most_energy) added
trade_quantity u t = each_map (λ r w. w.quantity_high) t

-- the exposure at the set-up that the bytes say
pub exposure_read : (s : List ℕ) → is_sound s ≡ true → (o m : ℕ) → m ≡ exposure (book_in s).setup (book_in s).part.rows o
    → m ≡ exposure (setup_of s) (book_in s).part.rows o
exposure_read s k o m e = e ∙ ap (λ (u : Setup). exposure u (book_in s).part.rows o) (setup_in_lem s k)
