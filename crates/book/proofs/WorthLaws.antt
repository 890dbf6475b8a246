-- An exposure is the sum of two parts: what of the operator's net positions lies below zero, and what each pending sale of its accounts adds.
-- So it is with rows that are to be added, and once a pending row is confirmed.
use Rattle.std.specs.Prelude.{if◌then◌else◌}
use Prim.Native.Nat.{ℕ, ◌+◌, ◌-◌, ◌*◌, ◌≤◌}
use mathlib.Core.Path.{◌≡◌, refl, sym, ap, ◌∙◌}
use mathlib.Core.List.{List, [], ◌∷◌, ◌++◌}
use mathlib.Core.Bool.{Bool, true, false, ◌&&◌}
use native.Mathlib.Nat.{mul-zero, zero-mul, mul_comm, mul-add}
use native.Mathlib.Omega.{arith}
use lib.ListN.{length}
use lib.Dec.{eqb}
use Rattle.rules.specs.declared.Row.{Row}
use Rattle.rules.specs.declared.Net.{Net}
use Rattle.rules.specs.Basics.{total, nth, up_to, Each, nil, cons}
use Rattle.rules.specs.Books.{Setup, no_row, estimate_at, account_count, periods}
use Rattle.rules.specs.Registration.{pending, includes_hour, buyer, seller, counted, pending_of, waiting, with_status, mark, bought, sold, net_of, pending_sales, account_hour, after_trade, exposed, of_operator, exposure_of, exposure, exposure_with}
use Rattle.rules.proofs.Basics.Totals.{total_zero, total_append, total_add, total_times, total_cong}
use Rattle.rules.proofs.Basics.Searches.{each_append}
use Rattle.rules.proofs.Rows.Operators.{operator_cong, operator_add, operator_none, operator_one}
use Rattle.rules.proofs.Rows.AccountHours.{moved_confirm, waiting_end, hour_takes_all, exposure_added, pending_move_nothing}
use Rattle.book.specs.Worth.{net_with, short_worth, account_short, span_price, sale_worth}

-- ---- tests

-- the quantity of a pending sale in an hour, at the hour's price
at_price : (price q : ℕ) (t c e d : Bool) → price * (if t && c && e && d then q else 0) ≡ (if t && d && e then (if c then price else 0) * q else 0)
at_price price q false c e d = mul-zero price
at_price price q true true true true = refl
at_price price q true false true true = mul-zero price ∙ sym (zero-mul q)
at_price price q true true true false = mul-zero price
at_price price q true false true false = mul-zero price
at_price price q true true false true = mul-zero price
at_price price q true false false true = mul-zero price
at_price price q true true false false = mul-zero price
at_price price q true false false false = mul-zero price

-- ---- amounts of energy by account and hour, at estimated prices

module _ (u : Setup) (o : ℕ) where
  unfoldable worth_of : (ℕ → ℕ → ℕ) → ℕ
  worth_of f = of_operator u (λ a. total (λ h. (estimate_at u h).0 * f a h) (up_to (periods u))) o

  worth_cong : (f g : ℕ → ℕ → ℕ) → ((a h : ℕ) → f a h ≡ g a h) → worth_of f ≡ worth_of g
  unfolding worth_of
  worth_cong f g e =
      operator_cong u o _ _ (λ a. total_cong _ _ (up_to (periods u)) (λ h. ap (λ (x : ℕ). (estimate_at u h).0 * x) (e a h)))

  worth_add : (f g : ℕ → ℕ → ℕ) → worth_of (λ a h. f a h + g a h) ≡ worth_of f + worth_of g
  unfolding worth_of
  worth_add f g =
      operator_cong u o _ _ (λ a.
      total_cong _ _ (up_to (periods u)) (λ h. mul-add (estimate_at u h).0 (f a h) (g a h)) ∙ total_add _ _ (up_to (periods u)))
      ∙ operator_add u o _ _

  worth_none : worth_of (λ a h. 0) ≡ 0
  unfolding worth_of
  worth_none =
      operator_cong u o _ (λ a. 0) (λ a.
      total_cong _ (λ h. 0) (up_to (periods u)) (λ h. mul-zero (estimate_at u h).0) ∙ total_zero (up_to (periods u)))
      ∙ operator_none u o

  -- ---- pending sales

  -- where it is pending, a row's proposer is an account of the set-up
  abbrev pub Known : Row → Type 0
  Known r = pending r ≡ true → (1 ≤ r.proposer) × (r.proposer ≤ account_count u)

  -- the quantity of a row in the hour where it is a pending sale of the account, and else nothing
  abbrev sale_share : Row → ℕ → ℕ → ℕ
  sale_share r a h = counted (pending_of 1 a h) r

  -- its sum over the hours, at estimated prices
  account_sale : (r : Row) (a : ℕ)
      → total (λ h. (estimate_at u h).0 * sale_share r a h) (up_to (periods u))
      ≡ (if pending r && eqb r.side 1 && eqb r.proposer a then r.quantity.0 * span_price u r else 0)
  unfolding span_price
  account_sale r a =
      total_cong _ _ (up_to (periods u)) (λ h. at_price (estimate_at u h).0 r.quantity.0 (pending r) (includes_hour h r) (eqb r.proposer a) (eqb r.side 1))
      ∙ go (pending r && eqb r.side 1 && eqb r.proposer a)
    where
      go : (t : Bool) → total (λ h. if t then (if includes_hour h r then (estimate_at u h).0 else 0) * r.quantity.0 else 0) (up_to (periods u))
          ≡ (if t then r.quantity.0 * total (λ h. if includes_hour h r then (estimate_at u h).0 else 0) (up_to (periods u)) else 0)
      go true = total_times (λ h. if includes_hour h r then (estimate_at u h).0 else 0) r.quantity.0 (up_to (periods u)) ∙ mul_comm _ r.quantity.0
      go false = total_zero (up_to (periods u))

  -- its sum over the operator's accounts is what the row adds to the exposure
  sale_worth_lem : (r : Row) → Known r → worth_of (sale_share r) ≡ sale_worth u o r
  unfolding worth_of sale_worth
  sale_worth_lem r known =
      operator_cong u o _ _ (account_sale r)
      ∙ operator_one u o r.proposer (r.quantity.0 * span_price u r) (pending r) (eqb r.side 1) known

  -- the pending sales of rows are the sum of what each row adds
  sales_worth : {rows : List Row} → Each Known rows → worth_of (pending_sales rows) ≡ total (sale_worth u o) rows
  unfolding waiting total
  sales_worth nil = worth_none
  sales_worth (cons {x = r} {xs = rows} known e) =
      worth_add (sale_share r) (pending_sales rows) ∙ omega (arith, sale_worth_lem r known, sales_worth e)

  -- ---- the exposure with rows that are to be added

  -- an exposure is what lies below zero, and what each row adds as a pending sale
  exposure_parts : {rows : List Row} → Each Known rows → exposure u rows o ≡ short_worth u (net_of rows) o + total (sale_worth u o) rows
  unfolding exposure_of worth_of short_worth account_short
  exposure_parts {rows} known =
      let below : ℕ → ℕ → ℕ = λ a h. sold rows a h - bought rows a h in
      omega (arith, worth_add below (pending_sales rows), sales_worth known)

  pub exposure_split : (rows added : List Row) → Each Known rows → Each Known added
      → exposure_with u rows added o ≡ short_worth u (net_with rows added) o + total (sale_worth u o) rows + total (sale_worth u o) added
  exposure_split rows added known new =
      let nets : short_worth u (net_of (rows ++ added)) o ≡ short_worth u (net_with rows added) o =
      ap (λ (net : ℕ → ℕ → Net). short_worth u net o) (λ i a h. (hour_takes_all rows added a h i).net) in
      omega (arith, exposure_added u rows added o, exposure_parts (each_append known new), nets, total_append (sale_worth u o) rows added)

  -- pending rows more add what each adds as a sale
  pub exposure_more : (rows added : List Row) → Each Known rows → Each Known added → Each (λ r. pending r ≡ true) added
      → exposure_with u rows added o ≡ exposure_with u rows [] o + total (sale_worth u o) added
  unfolding total
  exposure_more rows added known new waits =
      let nets : short_worth u (net_with rows added) o ≡ short_worth u (net_with rows []) o =
      ap (λ (net : ℕ → ℕ → Net). short_worth u net o) (λ i a h. pending_move_nothing rows a h waits i) in
      omega (arith, exposure_split rows added known new, exposure_split rows [] known nil, nets)

  -- an hour that takes a row once confirmed, while the pending row is still counted, is exposed to that row twice
  confirmed_hour : (rows : List Row) (n a h : ℕ) → pending (nth rows n no_row) ≡ true
      → exposed (after_trade a h (account_hour rows a h) (with_status 2 (nth rows n no_row))) ≡ exposed (account_hour (mark n 2 rows) a h) + sale_share (nth rows n no_row) a h
  unfolding after_trade
  confirmed_hour rows n a h e =
      rw e (omega (arith, moved_confirm buyer a h (λ status r. refl) rows n e, moved_confirm seller a h (λ status r. refl) rows n e, waiting_end 1 a h rows n 2 e refl))

  pub with_confirmed : (rows : List Row) (row : Row) (n : ℕ) → 1 ≤ n → n ≤ length rows → row ≡ nth rows n no_row → pending row ≡ true
      → (1 ≤ row.proposer) × (row.proposer ≤ account_count u)
      → exposure_with u rows (with_status 2 row ∷ []) o ≡ exposure u (mark n 2 rows) o + sale_worth u o row
  unfolding exposure_of worth_of
  with_confirmed rows row n low high e p known =
      worth_cong (λ a h. exposed (after_trade a h (account_hour rows a h) (with_status 2 row))) (λ a h. exposed (account_hour (mark n 2 rows) a h) + sale_share row a h)
      (λ a h. rw e (confirmed_hour rows n a h (rw e at p)))
      ∙ worth_add (λ a h. exposed (account_hour (mark n 2 rows) a h)) (sale_share row)
      ∙ ap (λ (x : ℕ). exposure u (mark n 2 rows) o + x) (sale_worth_lem row (λ q. known))
