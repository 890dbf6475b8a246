-- What one row adds to each lane: by cases on the lane, with the row's status and side known.
use Rattle.std.specs.Prelude.{if◌then◌else◌}
use Prim.Native.Nat.{ℕ, zero, suc, ◌+◌, ◌*◌, ◌≤◌, ◌<◌}
use mathlib.Core.Path.{◌≡◌, sym, ap, ◌∙◌}
use mathlib.Core.List.{List, [], ◌∷◌}
use mathlib.Core.Bool.{and-true, and-false}
use mathlib.Core.Logic.{⊎_elim}
use native.Mathlib.Nat.{add-zero}
use native.Mathlib.Omega.{arith}
use lib.ListN.{get_or}
use borrow.Author.Tests.{ne_eqb}
use Rattle.rules.specs.declared.Row.{Row}
use Rattle.rules.specs.Basics.{total}
use Rattle.rules.specs.Limits.{most_accounts}
use Rattle.rules.specs.Registration.{moved, waiting, buyer, seller}
use Rattle.rules.proofs.Basics.Differences.{lt_or_ge}
use Rattle.image.specs.Tables.{slot_of, cell_of, InTable, Tabled}
use Rattle.rules.proofs.Basics.Products.{stride}
use Rattle.image.proofs.Tables.SumLaws.{hits, raised_cell, raised_most}
use Rattle.image.proofs.Tables.TabledLaws.{buyer_in, seller_in, first_hour_lem}
use Rattle.tables.specs.Sums.{RowAdded, lane_sum, HoursRaised}

-- ---- what one row adds

module _ (r : Row) (a h : ℕ) where
  -- to which lane, for which account
  share : ℕ → ℕ → ℕ → ℕ
  share lane account other = if hits lane account r.first r.last other a h then r.quantity.0 else 0

  share_confirmed : r.status ≡ 2 → (lane : ℕ) → lane ≤ 3 → lane_sum lane (r ∷ []) a h ≡ share 0 (buyer r) lane + share 1 (seller r) lane
  unfolding lane_sum moved waiting total share
  share_confirmed e zero l = rw e
  share_confirmed e (suc zero) l = rw e (omega arith)
  share_confirmed e (suc (suc zero)) l = rw e
  share_confirmed e (suc (suc (suc zero))) l = rw e
  share_confirmed e (suc (suc (suc (suc lane)))) l = absurd (omega arith)

  share_sale : r.status ≡ 1 → r.side ≡ 1 → (lane : ℕ) → lane ≤ 3 → lane_sum lane (r ∷ []) a h ≡ share 2 r.proposer lane
  unfolding lane_sum moved waiting total share
  share_sale e d zero l = rw e
  share_sale e d (suc zero) l = rw e
  share_sale e d (suc (suc zero)) l = rw (e, d, and-true) (add-zero _)
  share_sale e d (suc (suc (suc zero))) l = rw (e, d, and-false)
  share_sale e d (suc (suc (suc (suc lane)))) l = absurd (omega arith)

  share_purchase : r.status ≡ 1 → r.side ≡ 2 → (lane : ℕ) → lane ≤ 3 → lane_sum lane (r ∷ []) a h ≡ share 3 r.proposer lane
  unfolding lane_sum moved waiting total share
  share_purchase e d zero l = rw e
  share_purchase e d (suc zero) l = rw e
  share_purchase e d (suc (suc zero)) l = rw (e, d, and-false)
  share_purchase e d (suc (suc (suc zero))) l = rw (e, d, and-true) (add-zero _)
  share_purchase e d (suc (suc (suc (suc lane)))) l = absurd (omega arith)

  -- a pending row of no side, and one that is neither pending nor confirmed
  share_sideless : r.status ≡ 1 → (r.side ≡ 1 → ⊥) → (r.side ≡ 2 → ⊥) → (lane : ℕ) → lane_sum lane (r ∷ []) a h ≡ 0
  unfolding lane_sum moved waiting total
  share_sideless e f g zero = rw e
  share_sideless e f g (suc zero) = rw e
  share_sideless e f g (suc (suc zero)) = rw (e, ne_eqb _ _ f, and-false)
  share_sideless e f g (suc (suc (suc lane))) = rw (e, ne_eqb _ _ g, and-false)

  share_idle : (r.status ≡ 1 → ⊥) → (r.status ≡ 2 → ⊥) → (lane : ℕ) → lane_sum lane (r ∷ []) a h ≡ 0
  unfolding lane_sum moved waiting total
  share_idle f g zero = rw (ne_eqb r.status 2 g)
  share_idle f g (suc zero) = rw (ne_eqb r.status 2 g)
  share_idle f g (suc (suc zero)) = rw (ne_eqb r.status 1 f)
  share_idle f g (suc (suc (suc lane))) = rw (ne_eqb r.status 1 f)

-- ---- one row more

-- a row's hours raised in a lane, as each account hour sees it
raised_share : {top : ℕ} (before after : List ℕ) (r : Row) (lane account : ℕ) → Tabled top r → 1 ≤ account → account ≤ most_accounts
    → HoursRaised top lane account r before after
    → (other a h : ℕ) → InTable top a h → get_or after (cell_of top other a h) 0 ≡ get_or before (cell_of top other a h) 0 + share r a h lane account other
unfolding share
raised_share {top} before after r lane account t l u w other a h i =
    let low : InTable top account r.first = first_hour_lem r account t (l, u) in
    let high : InTable top account r.last = record { account_low = l; account_high = u; hour_low = omega (arith, t); hour_high = t.last_high } in
    raised_cell top lane account r.first r.last other a h low high t.in_order i before after r.quantity.0 w

-- a confirmed row
pub added_confirmed : {top : ℕ} (before middle after : List ℕ) (r : Row) → Tabled top r → r.status ≡ 2
    → HoursRaised top 0 (buyer r) r before middle
    → HoursRaised top 1 (seller r) r middle after
    → RowAdded top before after r
added_confirmed {top} before middle after r t e b s =
    let buys = buyer_in r t in
    let sells = seller_in r t in
    record {
      share = λ lane a h l i.
          let x = raised_share before middle r 0 (buyer r) t buys.0 buys.1 b lane a h i in
          let y = raised_share middle after r 1 (seller r) t sells.0 sells.1 s lane a h i in
          let z = share_confirmed r a h e lane l in
          omega arith;
      grown = λ k.
          ⊎_elim
          (λ (w : k < most_accounts * top). omega (arith, s.below k (omega arith), raised_most before middle _ _ _ b k))
          (λ (w : most_accounts * top ≤ k).
          omega (arith, b.above k (omega (arith, t, stride top (slot_of 0 (buyer r)) most_accounts (omega arith))), raised_most middle after _ _ _ s k))
          (lt_or_ge k (most_accounts * top));
    }

-- a pending row, of which the share falls to that lane for its proposer
added_pending : {top : ℕ} (before after : List ℕ) (r : Row) (lane : ℕ) → Tabled top r
    → ((a h other : ℕ) → other ≤ 3 → lane_sum other (r ∷ []) a h ≡ share r a h lane r.proposer other)
    → HoursRaised top lane r.proposer r before after
    → RowAdded top before after r
added_pending {top} before after r lane t e w =
    record {
      share = λ other a h l i.
          raised_share before after r lane r.proposer t t.proposer_low t.proposer_high w other a h i
          ∙ ap (λ (x : ℕ). get_or before (cell_of top other a h) 0 + x) (sym (e a h other l));
      grown = raised_most before after _ _ _ w;
    }

pub added_sale : {top : ℕ} (before after : List ℕ) (r : Row) → Tabled top r → r.status ≡ 1 → r.side ≡ 1
    → HoursRaised top 2 r.proposer r before after
    → RowAdded top before after r
added_sale before after r t e d w = added_pending before after r 2 t (λ a h. share_sale r a h e d) w

pub added_purchase : {top : ℕ} (before after : List ℕ) (r : Row) → Tabled top r → r.status ≡ 1 → r.side ≡ 2
    → HoursRaised top 3 r.proposer r before after
    → RowAdded top before after r
added_purchase before after r t e d w = added_pending before after r 3 t (λ a h. share_purchase r a h e d) w

-- a row that adds nothing
added_nothing : {top : ℕ} (before : List ℕ) (r : Row) → ((a h lane : ℕ) → lane_sum lane (r ∷ []) a h ≡ 0) → RowAdded top before before r
added_nothing before r e = record { share = λ lane a h l i. rw (e a h lane) (sym (add-zero _)); grown = λ k. omega arith }

pub added_sideless : {top : ℕ} (before : List ℕ) (r : Row) → r.status ≡ 1 → (r.side ≡ 1 → ⊥) → (r.side ≡ 2 → ⊥) → RowAdded top before before r
added_sideless before r e f g = added_nothing before r (λ a h. share_sideless r a h e f g)

pub added_idle : {top : ℕ} (before : List ℕ) (r : Row) → (r.status ≡ 1 → ⊥) → (r.status ≡ 2 → ⊥) → RowAdded top before before r
added_idle before r f g = added_nothing before r (λ a h. share_idle r a h f g)
