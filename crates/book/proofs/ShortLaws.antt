-- What of the net positions lies below zero: in an hour, from the bytes of a book; then for an account and for an operator.
use Rattle.std.specs.Prelude.{if◌then◌else◌}
use Prim.Native.Nat.{ℕ, ◌*◌, ◌≤◌}
use mathlib.Core.Path.{◌≡◌, refl, sym, ap, ◌∙◌}
use mathlib.Core.List.{List, [], ◌∷◌}
use mathlib.Core.Bool.{Bool, true, false, ◌&&◌, ◌||◌, and-false}
use native.Mathlib.Nat.{mul_comm, mul-le-mul}
use native.Mathlib.Omega.{arith}
use lib.Dec.{eqb}
use borrow.Author.Tests.{eq-eqb, ne_eqb}
use Rattle.units.specs.declared.CentsPerMwh.{CentsPerMwh}
use Rattle.rules.specs.declared.Row.{Row}
use Rattle.rules.specs.declared.Net.{Net}
use Rattle.rules.specs.Basics.{total, counting}
use Rattle.rules.specs.Limits.{most_energy, most_price}
use Rattle.rules.specs.Books.{Setup, estimate_at, operator_of, account_count, periods}
use Rattle.rules.specs.Registration.{confirmed, includes_hour, seller, net_of, after_trade, of_operator}
use Rattle.rules.proofs.Basics.Tests.{or_neither}
use Rattle.image.specs.Valid.{is_sound, book_in}
use Rattle.image.proofs.Tables.MoneyLaws.{where_most}
use Rattle.book.specs.Members.{IsAccount, IsHour}
use Rattle.book.specs.Netted.{netted}
use Rattle.book.specs.Worth.{short_of, short_after, short_worth, account_short, short_share, net_with, most_short}
use Rattle.book.proofs.ReadingLaws.{net_near}

-- ---- an hour

-- a confirmed trade moves something of the account
abbrev pub moves : ℕ → Row → Bool
moves a r = confirmed r && (eqb r.proposer a || eqb r.counterparty a)

-- neither party is the account
idle_share : (x cov s : Bool) (y z a q : ℕ) → (x ≡ true → (eqb y a ≡ false) × (eqb z a ≡ false)) → (if x && cov && eqb (if s then y else z) a then q else 0) ≡ 0
idle_share false cov s y z a q h = refl
idle_share true cov true y z a q h = rw ((h refl).0, and-false)
idle_share true cov false y z a q h = rw ((h refl).1, and-false)

neither : (x y z : Bool) → x && (y || z) ≡ false → x ≡ true → (y ≡ false) × (z ≡ false)
neither true y z h e = (or_neither y z).0 h
neither false y z h e = let w : false ≡ true = e in (cc, cc)

module _ (s : List ℕ) (k : is_sound s ≡ true) (a h : ℕ) (i : IsAccount (book_in s) a) (j : IsHour (book_in s) h)
    (net : Net) (e : net ≡ netted (net_of (book_in s).part.rows a h)) where
  -- what was read is in range
  pub net_small : (net.bought.0 ≤ most_energy) × (net.sold.0 ≤ most_energy)
  unfolding netted
  net_small = let near = net_near s k a h i j in rw e (omega arith, omega arith)

  module _ (r : ℕ) where
    -- where nothing is added
    pub short_alone : r ≡ short_of net → (r ≡ short_of (net_with (book_in s).part.rows [] a h)) × (r ≤ most_short)
    unfolding netted
    short_alone d =
        let b = ap (λ (n : Net). n.bought.0) e in
        let o = ap (λ (n : Net). n.sold.0) e in
        let near = net_small in
        (omega arith, omega arith)

    -- and where a trade is
    pub short_one : (trade : Row) → trade.quantity.0 ≤ most_energy → r ≡ short_after net trade a h
        → (r ≡ short_of (net_with (book_in s).part.rows (trade ∷ []) a h)) × (r ≤ most_short)
    unfolding netted after_trade short_after
    short_one trade small d =
        let b = ap (λ (n : Net). n.bought.0) e in
        let o = ap (λ (n : Net). n.sold.0) e in
        let near = net_small in
        let m = where_most trade.quantity.0 most_energy (confirmed trade && includes_hour h trade && eqb (seller trade) a) small in
        (omega arith, omega arith)

-- a trade that moves nothing of the account
pub short_still : (net : Net) (trade : Row) (a h r : ℕ) → moves a trade ≡ false → r ≡ short_of net → r ≡ short_after net trade a h
unfolding after_trade short_after
short_still net trade a h r idle d =
    let none = neither (confirmed trade) (eqb trade.proposer a) (eqb trade.counterparty a) idle in
    let buys = idle_share (confirmed trade) (includes_hour h trade) (eqb trade.side 1) trade.counterparty trade.proposer a trade.quantity.0 (λ x. ((none x).1, (none x).0)) in
    let sells = idle_share (confirmed trade) (includes_hour h trade) (eqb trade.side 1) trade.proposer trade.counterparty a trade.quantity.0 none in
    omega arith

-- at the hour's price
unfoldable pub hour_short : Setup → (ℕ → ℕ → Net) → ℕ → ℕ → ℕ
hour_short u net a h = (estimate_at u h).0 * short_of (net a h)

pub hour_short_read : (u : Setup) (net : ℕ → ℕ → Net) (a h below : ℕ) (price : CentsPerMwh) {r : ℕ} → below ≡ short_of (net a h)
    → price ≡ estimate_at u h → r ≡ below * price.0 → r ≡ hour_short u net a h
unfolding hour_short
hour_short_read u net a h below price e d f = f ∙ mul_comm below price.0 ∙ rw (← e, ← d)

pub short_most : (below price : ℕ) → below ≤ most_short → price ≤ most_price → below * price ≤ most_short * most_price
short_most below price a b = mul-le-mul a b

-- ---- an account and an operator

pub short_by_hour : (u : Setup) (net : ℕ → ℕ → Net) (a : ℕ) → account_short u net a ≡ total (hour_short u net a) (counting (periods u) 1)
unfolding account_short hour_short
short_by_hour u net a = refl

pub short_by_account : (u : Setup) (net : ℕ → ℕ → Net) (o : ℕ) → short_worth u net o ≡ total (short_share u net o) (counting (account_count u) 1)
unfolding short_worth short_share account_short of_operator
short_by_account u net o = refl

-- an account whose operator was read
pub short_of_own : (u : Setup) (net : ℕ → ℕ → Net) (o a x : ℕ) → x ≡ operator_of u a → x ≡ o → short_share u net o a ≡ account_short u net a
unfolding short_share
short_of_own u net o a x e d = rw (eq-eqb (operator_of u a) o (sym e ∙ d))

pub short_of_others : (u : Setup) (net : ℕ → ℕ → Net) (o a x : ℕ) → x ≡ operator_of u a → (x ≡ o → ⊥) → short_share u net o a ≡ 0
unfolding short_share
short_of_others u net o a x e d = rw (ne_eqb (operator_of u a) o (λ f. d (e ∙ f)))
