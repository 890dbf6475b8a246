-- The hourly exposure of an operator: the sum of what lies below zero of its accounts' net positions, and of what each row adds as a pending
-- sale, at the hour's price.
use Rattle.std.specs.Prelude.{if◌then◌else◌}
use Prim.Native.Nat.{ℕ, ◌+◌, ◌*◌}
use mathlib.Core.Path.{◌≡◌, refl, sym, ap, ◌∙◌}
use mathlib.Core.List.{List}
use mathlib.Core.Bool.{Bool, true, false, ◌&&◌}
use native.Mathlib.Nat.{mul_comm}
use native.Mathlib.Omega.{arith}
use lib.ListN.{get_or}
use lib.Dec.{eqb}
use borrow.Author.Tests.{eq-eqb, ne_eqb}
use Rattle.units.specs.declared.CentsPerMwh.{CentsPerMwh}
use Rattle.rules.specs.declared.Row.{Row}
use Rattle.rules.specs.Basics.{total, counting, Each, nil, cons}
use Rattle.rules.specs.Books.{Setup, estimate_at, operator_of, account_count}
use Rattle.rules.specs.Registration.{pending, includes_hour, counted, pending_of, waiting, net_of, pending_sales, account_hour, exposed, of_operator, hourly_exposure_of, hourly_exposure}
use Rattle.rules.proofs.Rows.Operators.{operator_cong, operator_add, operator_none, operator_one}
use Rattle.image.specs.Valid.{is_sound, book_in}
use Rattle.book.specs.Members.{IsAccount}
use Rattle.book.specs.Worth.{short_of, OperatorInputs}
use Rattle.book.specs.Hourly.{account_short_in_hour, operator_short_in_hour, sale_in_hour}
use Rattle.book.proofs.WorthLaws.{Known}
use Rattle.book.proofs.WorthParts.{rows_known}

-- the tests of a pending sale, that of the account last
account_last : (t c x e : Bool) → t && c && x && e ≡ t && (c && e) && x
account_last false c x e = refl
account_last true false x e = refl
account_last true true true true = refl
account_last true true true false = refl
account_last true true false true = refl
account_last true true false false = refl

-- and the operator's before them
operator_first : (q : ℕ) (t c e w : Bool) → (if t && (c && e) && w then q else 0) ≡ (if w then (if t && c && true && e then q else 0) else 0)
operator_first q false c e true = refl
operator_first q false c e false = refl
operator_first q true false e true = refl
operator_first q true false e false = refl
operator_first q true true true true = refl
operator_first q true true true false = refl
operator_first q true true false true = refl
operator_first q true true false false = refl

module _ (u : Setup) (o h : ℕ) where
  -- what a row adds, over the operator's accounts
  sale_over_accounts : (r : Row) → Known u o r → of_operator u (λ a. counted (pending_of 1 a h) r) o ≡ sale_in_hour u o h r
  unfolding sale_in_hour
  sale_over_accounts r known =
      operator_cong u o _ _ (λ a.
      ap (λ (t : Bool). if t then r.quantity.0 else 0) (account_last (pending r) (includes_hour h r) (eqb r.proposer a) (eqb r.side 1)))
      ∙ operator_one u o r.proposer r.quantity.0 (pending r) (includes_hour h r && eqb r.side 1) known
      ∙ rw (eq-eqb r.proposer r.proposer refl)
      (operator_first r.quantity.0 (pending r) (includes_hour h r) (eqb r.side 1) (eqb (operator_of u r.proposer) o))

  -- what all rows add
  sales_over_accounts : {rows : List Row} → Each (Known u o) rows
      → of_operator u (λ a. pending_sales rows a h) o ≡ total (sale_in_hour u o h) rows
  unfolding waiting total
  sales_over_accounts nil = operator_none u o
  sales_over_accounts (cons {x = r} {xs = rows} known e) =
      operator_add u o (λ a. counted (pending_of 1 a h) r) (λ a. pending_sales rows a h)
      ∙ omega (arith, sale_over_accounts r known, sales_over_accounts e)

  -- the hour's sum
  sum_of_hour : {rows : List Row} → Each (Known u o) rows
      → of_operator u (λ a. exposed (account_hour rows a h)) o ≡ operator_short_in_hour u rows o h + total (sale_in_hour u o h) rows
  unfolding operator_short_in_hour
  sum_of_hour {rows} known =
      operator_add u o (λ a. short_of (net_of rows a h)) (λ a. pending_sales rows a h)
      ∙ ap (λ (n : ℕ). of_operator u (λ a. short_of (net_of rows a h)) o + n) (sales_over_accounts known)

-- ---- what code works out

-- an account whose operator was read
pub short_of_own : (u : Setup) (rows : List Row) (o h a x r : ℕ) → x ≡ operator_of u a → x ≡ o → r ≡ short_of (net_of rows a h)
    → r ≡ account_short_in_hour u rows o h a
unfolding account_short_in_hour
short_of_own u rows o h a x r e d f = rw (eq-eqb (operator_of u a) o (sym e ∙ d)) f

pub short_of_others : (u : Setup) (rows : List Row) (o h a x : ℕ) → x ≡ operator_of u a → (x ≡ o → ⊥) → account_short_in_hour u rows o h a ≡ 0
unfolding account_short_in_hour
short_of_others u rows o h a x e d = rw (ne_eqb (operator_of u a) o (λ f. d (e ∙ f)))

-- the same with the operators of the book's accounts in a list
pub short_listed : (s operators : List ℕ) (o h a r : ℕ) → OperatorInputs s operators → IsAccount (book_in s) a → get_or operators a 0 ≡ o
    → r ≡ short_of (net_of (book_in s).part.rows a h) → r ≡ account_short_in_hour (book_in s).setup (book_in s).part.rows o h a
short_listed s operators o h a r t i d f = short_of_own _ _ o h a (get_or operators a 0) r (t.account_operators.operator a i.0 i.1) d f

pub none_listed : (s operators : List ℕ) (o h a : ℕ) → OperatorInputs s operators → IsAccount (book_in s) a → (get_or operators a 0 ≡ o → ⊥)
    → 0 ≡ account_short_in_hour (book_in s).setup (book_in s).part.rows o h a
none_listed s operators o h a t i d = sym (short_of_others _ _ o h a (get_or operators a 0) (t.account_operators.operator a i.0 i.1) d)

pub shorts_by_account : (u : Setup) (rows : List Row) (o h : ℕ) → operator_short_in_hour u rows o h ≡ total (account_short_in_hour u rows o h) (counting (account_count u) 1)
unfolding operator_short_in_hour account_short_in_hour of_operator
shorts_by_account u rows o h = refl

-- a row whose proposer's operator was read
pub sale_of_own : (u : Setup) (o h : ℕ) (r : Row) (x q : ℕ) → x ≡ operator_of u r.proposer → x ≡ o → q ≡ counted (pending_of 1 r.proposer h) r
    → q ≡ sale_in_hour u o h r
unfolding sale_in_hour
sale_of_own u o h r x q e n d = rw (eq-eqb (operator_of u r.proposer) o (sym e ∙ n)) d

pub sale_of_others : (u : Setup) (o h : ℕ) (r : Row) (x : ℕ) → x ≡ operator_of u r.proposer → (x ≡ o → ⊥) → sale_in_hour u o h r ≡ 0
unfolding sale_in_hour
sale_of_others u o h r x e n = rw (ne_eqb (operator_of u r.proposer) o (λ f. n (e ∙ f)))

-- both parts at the hour's price
pub hour_joined : (s : List ℕ) → is_sound s ≡ true → (o h below waits sum m : ℕ) (price : CentsPerMwh)
    → below ≡ operator_short_in_hour (book_in s).setup (book_in s).part.rows o h → waits ≡ total (sale_in_hour (book_in s).setup o h) (book_in s).part.rows
    → sum ≡ below + waits → price ≡ estimate_at (book_in s).setup h → m ≡ sum * price.0
    → m ≡ hourly_exposure (book_in s).setup (book_in s).part.rows o h
unfolding hourly_exposure_of
hour_joined s k o h below waits sum m price e d f g t =
    t ∙ mul_comm sum price.0 ∙ rw (g, f, e, d, ← sum_of_hour (book_in s).setup o h (rows_known s k o))
