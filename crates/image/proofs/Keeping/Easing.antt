-- What eases account hours. A confirm eases every account but its caller, for what the proposer has pending turns into net; rows added
-- every account but their proposer; a withdrawal and the close of the gate all. A purchase that waits and a sale that is confirmed expose
-- no operator more.
use Rattle.std.specs.Prelude.{if◌then◌else◌}
use Prim.Native.Nat.{ℕ, ◌≤◌}
use mathlib.Core.Path.{◌≡◌, refl, sym, ap, ◌∙◌}
use mathlib.Core.Logic.{◌⊎◌, inl, inr, ⊎_elim}
use mathlib.Core.List.{List, [], ◌∷◌, ◌++◌}
use mathlib.Core.Bool.{Bool, true, false, ◌&&◌, and-false, and-true}
use native.Mathlib.Nat.{add-zero}
use native.Mathlib.Omega.{arith}
use lib.Dec.{eqb}
use lib.Signed.{◌≤ℤ◌}
use borrow.Author.Tests.{eqb-true, eqb-false, eq-eqb, ne_eqb}
use Rattle.rules.specs.declared.Row.{Row}
use Rattle.rules.specs.Basics.{nth, Each}
use Rattle.rules.specs.Books.{Setup, no_row, estimate_at, operator_of}
use Rattle.rules.specs.Registration.{pending, includes_hour, seller, buyer, mark, closed, bought, sold, account_hour, after_trade, low, high, exposed, exposure, exposure_with}
use Rattle.rules.proofs.Basics.Searches.{each_map}
use Rattle.rules.proofs.Rows.AccountHours.{share, weight, moved_confirm, moved_withdraw, moved_close, waiting_end, waiting_close, hour_added, hour_confirm}
use Rattle.rules.proofs.Rows.Easing.{Eased, eased_refl, eased_low, eased_high, no_more_exposure, eased_exposure}
use Rattle.image.proofs.Sound.Soundness.{SoundRow}

-- ---- rows added

-- a pending row of that proposer
pub record ProposedBy (caller : ℕ) (r : Row) : Type 0 where
  pub waits : pending r ≡ true
  pub proposer : r.proposer ≡ caller

-- rows that one account adds leave what the others hold
pub added_leaves_others : (rows : List Row) {added : List Row} (caller a h : ℕ) → Each (ProposedBy caller) added → (a ≡ caller → ⊥)
    → account_hour (rows ++ added) a h ≡ account_hour rows a h
added_leaves_others rows caller a h e other =
    hour_added rows a h (each_map (λ r w. (w.waits, ne_eqb _ _ (λ same. other (sym same ∙ w.proposer)))) e)

pub added_eases_others : (rows : List Row) {added : List Row} (caller a h : ℕ) → Each (ProposedBy caller) added → (a ≡ caller → ⊥)
    → Eased (account_hour rows a h) (account_hour (rows ++ added) a h)
added_eases_others rows caller a h e other = rw (added_leaves_others rows caller a h e other) (eased_refl (account_hour rows a h))

-- a purchase that waits exposes no operator
pub purchase_exposes_none : (u : Setup) (rows : List Row) (r : Row) (o : ℕ) → pending r ≡ true → (r.side ≡ 1 → ⊥)
    → exposure_with u rows (r ∷ []) o ≤ exposure u rows o
unfolding after_trade
purchase_exposes_none u rows r o waits buys =
    no_more_exposure u (estimate_at u) (account_hour rows) (λ a h. after_trade a h (account_hour rows a h) r) o
    (λ a h owns. rw (eqb-true r.status 1 waits, ne_eqb r.side 1 buys, and-false (includes_hour h r && eqb r.proposer a)) (omega arith))

-- ---- withdraw and close gate

pub withdraw_eases : (rows : List Row) (n a h : ℕ) → pending (nth rows n no_row) ≡ true
    → Eased (account_hour rows a h) (account_hour (mark n 3 rows) a h)
withdraw_eases rows n a h e =
    let b = moved_withdraw buyer a h rows n e in
    let s = moved_withdraw seller a h rows n e in
    let x = waiting_end 1 a h rows n 3 e refl in
    let y = waiting_end 2 a h rows n 3 e refl in
    record { low_no_lower = omega arith; high_no_higher = omega arith; no_more_exposed = omega arith }

pub close_eases : (rows : List Row) (a h : ℕ) → Eased (account_hour rows a h) (account_hour (closed rows) a h)
close_eases rows a h =
    let b = moved_close buyer a h rows in
    let s = moved_close seller a h rows in
    let x = waiting_close 1 a h rows in
    let y = waiting_close 2 a h rows in
    record { low_no_lower = omega arith; high_no_higher = omega arith; no_more_exposed = omega arith }

-- ---- confirm

-- what the proposer comes to hold by a row is what it had pending
share_of_proposer : (side a h : ℕ) (r : Row) (party : Row → ℕ) → party r ≡ r.proposer → r.side ≡ side
    → share party a h r ≡ weight side a h r
share_of_proposer side a h r party e d =
    rw (e, eq-eqb r.side side d, and-true (includes_hour h r && eqb r.proposer a))

-- and the counterparty alone comes to hold the other side
share_of_others : (a h : ℕ) (r : Row) (party : Row → ℕ) → party r ≡ r.counterparty → (a ≡ r.counterparty → ⊥)
    → share party a h r ≡ 0
share_of_others a h r party e other = rw (e, ne_eqb r.counterparty a (λ f. other (sym f)), and-false (includes_hour h r))

side_cases : (side : ℕ) → 1 ≤ side → side ≤ 2 → (side ≡ 1) ⊎ (side ≡ 2)
side_cases side l m = go (eqb side 1) refl
  where
    go : (t : Bool) → eqb side 1 ≡ t → (side ≡ 1) ⊎ (side ≡ 2)
    go true e = inl (eqb-true side 1 e)
    go false e = inr (omega (arith, eqb-false side 1 e))

-- a confirm eases all but the counterparty of the row, which calls it
pub confirm_eases_others : (rows : List Row) (n a h : ℕ) → pending (nth rows n no_row) ≡ true
    → 1 ≤ (nth rows n no_row).side → (nth rows n no_row).side ≤ 2 → (a ≡ (nth rows n no_row).counterparty → ⊥)
    → Eased (account_hour rows a h) (account_hour (mark n 2 rows) a h)
confirm_eases_others rows n a h e l m other =
    let r : Row = nth rows n no_row in
    let b = moved_confirm buyer a h (λ status r. refl) rows n e in
    let s = moved_confirm seller a h (λ status r. refl) rows n e in
    let x = waiting_end 1 a h rows n 2 e refl in
    let y = waiting_end 2 a h rows n 2 e refl in
    ⊎_elim
    (λ (sells : r.side ≡ 1).
    let v = share_of_others a h r buyer (rw sells) other in
    let w = share_of_proposer 1 a h r seller (rw sells) sells in
    record { low_no_lower = omega arith; high_no_higher = omega arith; no_more_exposed = omega arith })
    (λ (buys : r.side ≡ 2).
    let v = share_of_others a h r seller (rw buys) other in
    let w = share_of_proposer 2 a h r buyer (rw buys) buys in
    record { low_no_lower = omega arith; high_no_higher = omega arith; no_more_exposed = omega arith })
    (side_cases r.side l m)

-- the key fact: a confirm eases the other party, the proposer, in each hour
module _ (u : Setup) (rows : List Row) (n p h : ℕ)
    (sound : SoundRow u (nth rows n no_row)) (waits : pending (nth rows n no_row) ≡ true) (proposes : (nth rows n no_row).proposer ≡ p) where
  eases_proposer : Eased (account_hour rows p h) (account_hour (mark n 2 rows) p h)
  eases_proposer =
      confirm_eases_others rows n p h waits sound.side_low sound.side_high (λ e. sound.two_accounts (proposes ∙ e))

  -- its low is no lower and its high no higher
  pub confirm_eases_proposer : (low (account_hour rows p h) ≤ℤ low (account_hour (mark n 2 rows) p h))
      × (high (account_hour (mark n 2 rows) p h) ≤ℤ high (account_hour rows p h))
  confirm_eases_proposer = (eased_low _ _ eases_proposer, eased_high _ _ eases_proposer)

  -- it is exposed no more
  pub confirm_eases_exposure : exposed (account_hour (mark n 2 rows) p h) ≤ exposed (account_hour rows p h)
  confirm_eases_exposure = eases_proposer.no_more_exposed

-- so no operator but the caller's is exposed more
pub confirm_eases_operators : (u : Setup) (rows : List Row) (n o : ℕ) → SoundRow u (nth rows n no_row)
    → pending (nth rows n no_row) ≡ true → (operator_of u (nth rows n no_row).counterparty ≡ o → ⊥)
    → exposure u (mark n 2 rows) o ≤ exposure u rows o
confirm_eases_operators u rows n o sound waits other =
    eased_exposure u rows (mark n 2 rows) o
    (λ a h owns. confirm_eases_others rows n a h waits sound.side_low sound.side_high (λ same. other (ap (operator_of u) (sym same) ∙ owns)))

-- nor is any where the row is a sale: what the proposer has pending turns into net, and the caller buys
pub sale_eases_operators : (u : Setup) (rows : List Row) (n o : ℕ) → pending (nth rows n no_row) ≡ true → (nth rows n no_row).side ≡ 1
    → exposure u (mark n 2 rows) o ≤ exposure u rows o
sale_eases_operators u rows n o waits sells =
    no_more_exposure u (estimate_at u) (account_hour rows) (account_hour (mark n 2 rows)) o (λ a h owns.
    let b = moved_confirm buyer a h (λ status r. refl) rows n waits in
    let s = moved_confirm seller a h (λ status r. refl) rows n waits in
    let x = waiting_end 1 a h rows n 2 waits refl in
    let w = share_of_proposer 1 a h (nth rows n no_row) seller (rw sells) sells in
    omega arith)

share_of_neither : (a h : ℕ) (r : Row) (party : Row → ℕ) → (party r ≡ a → ⊥) → share party a h r ≡ 0
share_of_neither a h r party other = rw (ne_eqb (party r) a other, and-false (includes_hour h r))

-- an account that is no party of the row holds what it held
pub confirm_leaves_others : (rows : List Row) (n a h : ℕ) → pending (nth rows n no_row) ≡ true
    → ((nth rows n no_row).proposer ≡ a → ⊥) → ((nth rows n no_row).counterparty ≡ a → ⊥)
    → account_hour (mark n 2 rows) a h ≡ account_hour rows a h
confirm_leaves_others rows n a h waits p c =
    let r : Row = nth rows n no_row in
    hour_confirm rows n a h waits (ne_eqb r.proposer a p)
    ∙ rw (share_of_neither a h r buyer (go (eqb r.side 1) c p), share_of_neither a h r seller (go (eqb r.side 1) p c), add-zero (bought rows a h), add-zero (sold rows a h))
  where
    go : {x y : ℕ} (t : Bool) → (x ≡ a → ⊥) → (y ≡ a → ⊥) → (if t then x else y) ≡ a → ⊥
    go true f g e = f e
    go false f g e = g e
