-- The ledger's page agrees with the book's part, and each change of the part changes both alike. A confirmed row and the trade of the
-- request that confirms it are the same, since the request mirrors the row.
use Rattle.std.specs.Prelude.{if◌then◌else◌, Some}
use Prim.Native.Nat.{ℕ, suc, ◌+◌, ◌≤◌}
use mathlib.Core.Path.{◌≡◌, refl, sym, ap, ◌∙◌}
use mathlib.Core.List.{List, [], ◌∷◌, ◌++◌, append_assoc, append-nil}
use mathlib.Core.Bool.{Bool, true, false, ◌&&◌}
use native.Mathlib.Omega.{arith}
use lib.ListN.{length, length-append}
use lib.Dec.{eqb}
use borrow.Author.Tests.{eqb-true, eqb-false, ne_eqb, eq-eqb}
use Rattle.units.specs.declared.Cents.{Cents}
use Rattle.rules.specs.declared.Row.{Row}
use Rattle.rules.specs.declared.Schedule.{Schedule}
use Rattle.rules.specs.declared.Request.{Request}
use Rattle.rules.specs.Basics.{nth, put, index_of, within, Each, nil, cons}
use Rattle.rules.specs.Books.{Part, no_row, part_guarantees, part_rows}
use Rattle.rules.specs.Registration.{pending, mark, closed, alike, seller, buyer, bought, sold}
use Rattle.rules.specs.Ledger.{Trade, Page, page_guarantees, page_pending, page_trades, page_schedules, without, trade_of, entered, traded}
use Rattle.rules.proofs.Rows.RowChanges.{length-mark, length-closed}
use Rattle.rules.proofs.Rows.RowTests.{Alike, Mirrored}
use Rattle.rules.proofs.Basics.Totals.{total_snoc}
use Rattle.rules.proofs.Rows.AccountHours.{moved_added, moved_confirm, moved_withdraw, moved_close}
use Rattle.rules.proofs.Ledgers.Entries.{entries_of, entries_register, entries_confirm, entries_withdraw, entries_close}

-- ---- a confirmed row is the trade of the request that confirms it

pub record SameTrade (r : Row) (t : Trade) : Type 0 where
  pub seller : seller r ≡ t.seller
  pub buyer : buyer r ≡ t.buyer
  pub first : r.first ≡ t.first
  pub last : r.last ≡ t.last
  pub quantity : r.quantity.0 ≡ t.quantity.0

module _ (q : Request) (r : Row) (a : Alike q.other q.account q.code r) (m : Mirrored q r)
    (low : 1 ≤ r.side) (high : r.side ≤ 2) (side : (1 ≤ q.side) × (q.side ≤ 2)) where
  same_go : (t : Bool) → eqb q.side 1 ≡ t → SameTrade r (trade_of q)
  same_go true e =
      let x = eqb-true q.side 1 e in
      let y : eqb r.side 1 ≡ false = ne_eqb r.side 1 (λ z. m.side (z ∙ sym x)) in
      record {
        seller = rw (y, e) a.counterparty;
        buyer = rw (y, e) a.proposer;
        first = m.first;
        last = m.last;
        quantity = m.quantity;
      }
  same_go false e =
      let x = eqb-false q.side 1 e in
      let d = m.side in
      let y : eqb r.side 1 ≡ true = eq-eqb r.side 1 (omega arith) in
      record {
        seller = rw (y, e) a.proposer;
        buyer = rw (y, e) a.counterparty;
        first = m.first;
        last = m.last;
        quantity = m.quantity;
      }

  pub same_trade : SameTrade r (trade_of q)
  same_trade = same_go (eqb q.side 1) refl

-- one trade more
traded-more : (party : Trade → ℕ) (ts : List Trade) (t : Trade) (a h : ℕ)
    → traded party (ts ++ t ∷ []) a h
    ≡ traded party ts a h + (if within t.first h t.last && eqb (party t) a then t.quantity.0 else 0)
unfolding traded
traded-more party ts t a h =
    total_snoc (λ (t : Trade). if within t.first h t.last && eqb (party t) a then t.quantity.0 else 0) ts t

-- ---- a part and a page

pub record PartAgrees (p : Part) (g : Page) : Type 0 where
  pub guarantees : p.guarantees ≡ g.guarantees
  pub pending : g.pending ≡ entries_of p.rows
  pub next_number : g.next_number ≡ suc (length p.rows)
  pub bought : (a h : ℕ) → bought p.rows a h ≡ traded (λ t. t.buyer) g.trades a h
  pub sold : (a h : ℕ) → sold p.rows a h ≡ traded (λ t. t.seller) g.trades a h

-- each change of the part, and what the ledger makes of its page
module _ (p : Part) (g : Page) (s : PartAgrees p g) where
  -- a row more
  row_added_agrees : (r : Row) → pending r ≡ true → PartAgrees (part_rows p (p.rows ++ r ∷ [])) (entered g r)
  row_added_agrees r waits =
      let n : g.next_number ≡ 1 + length p.rows = omega (arith, s.next_number) in
      record {
        guarantees = s.guarantees;
        pending = rw (s.pending, n) (sym (entries_register 1 p.rows r waits));
        next_number = omega (arith, s.next_number, length-append p.rows (r ∷ []));
        bought = λ a h. moved_added buyer a h p.rows (cons waits nil) ∙ s.bought a h;
        sold = λ a h. moved_added seller a h p.rows (cons waits nil) ∙ s.sold a h;
      }

  -- the row of a number is confirmed as that trade: it is the first pending one with these accounts and this code
  pub confirmed_agrees : (proposer counterparty code number i : ℕ) (t : Trade) → number ≡ suc i
      → index_of (alike proposer counterparty code) p.rows ≡ Some i → pending (nth p.rows number no_row) ≡ true
      → SameTrade (nth p.rows number no_row) t
      → PartAgrees (part_rows p (mark number 2 p.rows))
      (page_trades (page_pending g (without (λ e. alike proposer counterparty code e.row) g.pending)) (g.trades ++ t ∷ []))
  confirmed_agrees proposer counterparty code number i t n e waits same =
      record {
        guarantees = s.guarantees;
        pending = rw (s.pending, n) (entries_confirm proposer counterparty code i p.rows e);
        next_number = s.next_number ∙ ap suc (sym (length-mark number 2 p.rows));
        bought = λ a h.
            moved_confirm buyer a h (λ status r. refl) p.rows number waits
            ∙ rw (s.bought a h, same.buyer, same.first, same.last, same.quantity) (sym (traded-more (λ t. t.buyer) g.trades t a h));
        sold = λ a h.
            moved_confirm seller a h (λ status r. refl) p.rows number waits
            ∙ rw (s.sold a h, same.seller, same.first, same.last, same.quantity) (sym (traded-more (λ t. t.seller) g.trades t a h));
      }

  -- the row of a number is withdrawn
  pub withdrawn_agrees : (number : ℕ) → pending (nth p.rows number no_row) ≡ true
      → PartAgrees (part_rows p (mark number 3 p.rows)) (page_pending g (without (λ e. eqb e.number number) g.pending))
  withdrawn_agrees number waits =
      record {
        guarantees = s.guarantees;
        pending = rw s.pending (entries_withdraw number p.rows waits);
        next_number = s.next_number ∙ ap suc (sym (length-mark number 3 p.rows));
        bought = λ a h. moved_withdraw buyer a h p.rows number waits ∙ s.bought a h;
        sold = λ a h. moved_withdraw seller a h p.rows number waits ∙ s.sold a h;
      }

  -- all pending rows are withdrawn
  pub closed_agrees : PartAgrees (part_rows p (closed p.rows)) (page_pending g [])
  closed_agrees =
      record {
        guarantees = s.guarantees;
        pending = sym (entries_close 1 p.rows);
        next_number = s.next_number ∙ ap suc (sym (length-closed p.rows));
        bought = λ a h. moved_close buyer a h p.rows ∙ s.bought a h;
        sold = λ a h. moved_close seller a h p.rows ∙ s.sold a h;
      }

  -- a guarantee is replaced
  pub guaranteed_agrees : (o : ℕ) (x : Cents) → PartAgrees (part_guarantees p (put p.guarantees o x)) (page_guarantees g (put g.guarantees o x))
  guaranteed_agrees o x =
      record {
        guarantees = rw s.guarantees;
        pending = s.pending;
        next_number = s.next_number;
        bought = s.bought;
        sold = s.sold;
      }

  -- schedules are no part of it
  pub scheduled_agrees : (xs : List Schedule) → PartAgrees p (page_schedules g xs)
  scheduled_agrees xs =
      record { guarantees = s.guarantees; pending = s.pending; next_number = s.next_number; bought = s.bought; sold = s.sold }

-- rows entered one after the other
abbrev pub entered_all : Page → List Row → Page
entered_all g [] = g
entered_all g (r ∷ rs) = entered_all (entered g r) rs

-- no schedule enters with them
pub entered_schedules : (g : Page) (rows : List Row) → (entered_all g rows).schedules ≡ g.schedules
entered_schedules g [] = refl
entered_schedules g (r ∷ rs) = entered_schedules (entered g r) rs

-- rows more
pub rows_added_agrees : (p : Part) (g : Page) {rows : List Row} → Each (λ r. pending r ≡ true) rows → PartAgrees p g
    → PartAgrees (part_rows p (p.rows ++ rows)) (entered_all g rows)
rows_added_agrees p g nil s = rw append-nil s
rows_added_agrees p g (cons {x = r} {xs = rs} waits e) s =
    rw (← append_assoc p.rows (r ∷ []) rs) (rows_added_agrees (part_rows p (p.rows ++ r ∷ [])) (entered g r) e (row_added_agrees p g s r waits))
