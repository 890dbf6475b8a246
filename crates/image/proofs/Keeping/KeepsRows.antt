-- What one row more, a row marked, and the close of the gate do to the tests on rows: a row that ends is like no other, and a row
-- that was pending may end in a batch.
use Rattle.std.specs.Prelude.{if◌then◌else◌}
use Prim.Native.Nat.{ℕ, zero, suc, ◌≤◌}
use mathlib.Core.Path.{◌≡◌, refl, sym, ◌∙◌}
use mathlib.Core.Logic.{◌↔◌}
use mathlib.Core.List.{List, [], ◌∷◌, ◌++◌, map, append_assoc, append-nil}
use mathlib.Core.Bool.{Bool, true, false, not, ◌&&◌, ◌||◌, or-true}
use native.Mathlib.Omega.{arith}
use lib.ListN.{get_or, set}
use lib.Dec.{eqb}
use borrow.Author.Tests.{eqb-true, eq-eqb, not-true}
use Rattle.rules.specs.declared.Row.{Row}
use Rattle.rules.specs.declared.Request.{Request}
use Rattle.rules.specs.Basics.{any_passes, nth, Each, nil, cons}
use Rattle.rules.specs.Books.{Setup, no_row}
use Rattle.rules.specs.Registration.{pending, proposed, same_terms, alike, has_twin, twins, with_status, mark, closed}
use Rattle.rules.proofs.Basics.Tests.{and_both}
use Rattle.rules.proofs.Basics.Searches.{any_none, none_any, each_snoc, each_both}
use Rattle.rules.proofs.Rows.RowTests.{alike_by, alike-ended, alike_true, twins_none, twin_snoc}
use Rattle.image.specs.Valid.{no_twins, follows}
use Rattle.image.proofs.Sound.Soundness.{SoundRow}

-- two tests cannot both hold and fail
never : {t : Bool} → t ≡ true → t ≡ false → ⊥
never p q = let z : true ≡ false = sym p ∙ q in let y : ◌≡◌ {A = ℕ} 0 1 = cc in omega arith

-- what each element has, of a list with one other
pub each_set : {A : Type 0} {P : A → Type 0} {xs : List A} {x : A} → Each P xs → (i : ℕ) → P x → Each P (set xs i x)
each_set nil i p = nil
each_set (cons q e) zero p = cons p e
each_set (cons q e) (suc i) p = cons q (each_set e i p)

-- ---- rows marked and closed

-- a row in range is in range with another status
pub row_marked : (u : Setup) (status : ℕ) → 1 ≤ status → status ≤ 3 → (r : Row) → SoundRow u r → SoundRow u (with_status status r)
row_marked u status l h r s =
    record {
      proposer_low = s.proposer_low;
      proposer_high = s.proposer_high;
      counterparty_low = s.counterparty_low;
      counterparty_high = s.counterparty_high;
      two_accounts = s.two_accounts;
      code_fits = s.code_fits;
      side_low = s.side_low;
      side_high = s.side_high;
      first_low = s.first_low;
      in_order = s.in_order;
      last_high = s.last_high;
      quantity_low = s.quantity_low;
      quantity_high = s.quantity_high;
      status_low = l;
      status_high = h;
    }

closed_go : (r : Row) (t : Bool) → pending r ≡ t → pending (if t then with_status 3 r else r) ≡ false
closed_go r true e = refl
closed_go r false e = e

each_ended : (rows : List Row) → Each (λ r. pending r ≡ false) (closed rows)
unfolding closed
each_ended [] = nil
each_ended (r ∷ rs) = cons (closed_go r (pending r) refl) (each_ended rs)

-- none is pending after the close of the gate
pub closed_none_pending : (rows : List Row) → any_passes pending (closed rows) ≡ false
closed_none_pending rows = none_any pending (each_ended rows)

-- ---- no two pending rows are alike

-- no row of the list is pending with this row's proposer, counterparty and code
abbrev Apart : Row → List Row → Type 0
Apart r rs = Each (λ x. alike r.proposer r.counterparty r.code x ≡ false) rs

apart_go : (r : Row) (rs : List Row) (t : Bool) → pending r ≡ t
    → (not (t && any_passes (alike r.proposer r.counterparty r.code) rs) ≡ true) ↔ (pending r ≡ true → Apart r rs)
apart_go r rs true e = ((λ h p. any_none _ rs (not-true _ h)), (λ f. rw (none_any _ (f e))))
apart_go r rs false e = ((λ h p. absurd (never p e)), (λ f. refl))

twins_cons : (r : Row) (rs : List Row) → (no_twins (r ∷ rs) ≡ true) ↔ ((pending r ≡ true → Apart r rs) × (no_twins rs ≡ true))
unfolding no_twins
twins_cons r rs =
    let a = apart_go r rs (pending r) refl in
    let b = and_both (not (pending r && any_passes (alike r.proposer r.counterparty r.code) rs)) (no_twins rs) in
    ((λ h. (a.0 (b.0 h).0, (b.0 h).1)), (λ w. b.1 (a.1 w.0, w.1)))

-- of two pending rows each is like the other or neither is
turned : (x r : Row) → pending x ≡ true → alike r.proposer r.counterparty r.code x ≡ false
    → alike x.proposer x.counterparty x.code r ≡ false
turned x r e n = go (alike x.proposer x.counterparty x.code r) refl
  where
    go : (t : Bool) → alike x.proposer x.counterparty x.code r ≡ t → t ≡ false
    go true w =
        let a = alike_true _ _ _ r w in
        absurd (never (alike_by _ _ _ x (record { is_pending = e; proposer = sym a.proposer; counterparty = sym a.counterparty; code = sym a.code })) n)
    go false w = refl

twins_go : (r : Row) {rows : List Row} → no_twins rows ≡ true → Apart r rows → no_twins (rows ++ r ∷ []) ≡ true
unfolding no_twins
twins_go r h nil = (twins_cons r []).1 ((λ e. nil), refl)
twins_go r h (cons {x = x} {xs = xs} a rest) =
    let w = (twins_cons x xs).0 h in
    (twins_cons x (xs ++ r ∷ [])).1 ((λ e. each_snoc (w.0 e) (turned x r e a)), twins_go r w.1 rest)

-- one row more, like none that is pending
pub twins_snoc : (rows : List Row) (r : Row) → no_twins rows ≡ true
    → any_passes (alike r.proposer r.counterparty r.code) rows ≡ false → no_twins (rows ++ r ∷ []) ≡ true
twins_snoc rows r h n = twins_go r h (any_none _ rows n)

-- rows more, of requests of which none is like another or like a row that stands
pub twins_added : (rows : List Row) (qs : List Request) → no_twins rows ≡ true → Each (λ q. has_twin rows q ≡ false) qs → twins qs ≡ false
    → no_twins (rows ++ map proposed qs) ≡ true
twins_added rows [] h alone apart = rw append-nil h
twins_added rows (q ∷ qs) h (cons a alone) apart =
    let w = twins_none q qs apart in
    rw (← append_assoc rows (proposed q ∷ []) (map proposed qs))
    (twins_added (rows ++ proposed q ∷ []) qs (twins_snoc rows (proposed q) h a) (each_both (twin_snoc rows q) alone w.0) w.1)

twins-set : (rows : List Row) (i : ℕ) (y : Row) → pending y ≡ false → no_twins rows ≡ true → no_twins (set rows i y) ≡ true
twins-set [] i y e h = h
twins-set (x ∷ xs) zero y e h = (twins_cons y xs).1 ((λ p. absurd (never p e)), ((twins_cons x xs).0 h).1)
twins-set (x ∷ xs) (suc i) y e h =
    let w = (twins_cons x xs).0 h in
    (twins_cons x (set xs i y)).1 ((λ p. each_set (w.0 p) i (alike-ended _ _ _ y e)), twins-set xs i y e w.1)

-- a row that ends
pub twins-mark : (rows : List Row) (n status : ℕ) → eqb status 1 ≡ false → no_twins rows ≡ true → no_twins (mark n status rows) ≡ true
unfolding mark
twins-mark rows zero status e h = h
twins-mark rows (suc i) status e h = twins-set rows i (with_status status (get_or rows i no_row)) e h

twins-ended : {rows : List Row} → Each (λ r. pending r ≡ false) rows → no_twins rows ≡ true
unfolding no_twins
twins-ended nil = refl
twins-ended (cons {x = r} {xs = rs} q e) = (twins_cons r rs).1 ((λ p. absurd (never p q)), twins-ended e)

pub twins-closed : (rows : List Row) → no_twins (closed rows) ≡ true
twins-closed rows = twins-ended (each_ended rows)

-- ---- the saved rows are the first of the present ones but for their status

-- a row and what it may since have become: a pending one may have another status
pub record Later (x y : Row) : Type 0 where
  pub terms : same_terms x y ≡ true
  pub status : eqb x.status y.status || pending x ≡ true

pub follows_cons : (x y : Row) (xs ys : List Row) → (follows (x ∷ xs) (y ∷ ys) ≡ true) ↔ (Later x y × (follows xs ys ≡ true))
unfolding follows
follows_cons x y xs ys =
    let a = and_both (same_terms x y && (eqb x.status y.status || pending x)) (follows xs ys) in
    let b = and_both (same_terms x y) (eqb x.status y.status || pending x) in (
      (λ h. let w = b.0 (a.0 h).0 in (record { terms = w.0; status = w.1 }, (a.0 h).1)),
      (λ w. a.1 (b.1 (w.0.terms, w.0.status), w.1)),
    )

later_refl : (r : Row) → Later r r
unfolding same_terms
later_refl r =
    let e : (n : ℕ) → eqb n n ≡ true = λ n. eq-eqb n n refl in
    record {
      terms =
          rw (e r.proposer, e r.counterparty, e r.code, e r.side, e r.first, e r.last, e r.quantity.0);
      status = rw (e r.status);
    }

pub follows_refl : (rows : List Row) → follows rows rows ≡ true
unfolding follows
follows_refl [] = refl
follows_refl (r ∷ rs) = (follows_cons r r rs rs).1 (later_refl r, follows_refl rs)

-- rows more
pub follows_added : (xs ys added : List Row) → follows xs ys ≡ true → follows xs (ys ++ added) ≡ true
unfolding follows
follows_added [] ys added h = refl
follows_added (x ∷ xs) [] added h = cc
follows_added (x ∷ xs) (y ∷ ys) added h =
    let w = (follows_cons x y xs ys).0 h in (follows_cons x y xs (ys ++ added)).1 (w.0, follows_added xs ys added w.1)

or_same : (t : Bool) → t || t ≡ true → t ≡ true
or_same true h = refl
or_same false h = h

-- where the row is pending yet, it was so at the opening of the batch, and may end
later_ends : (x y : Row) (status : ℕ) → pending y ≡ true → Later x y → Later x (with_status status y)
unfolding same_terms
later_ends x y status e l =
    let p : pending x ≡ true = or_same (pending x) (rw (eqb-true y.status 1 e) at l.status) in
    record { terms = l.terms; status = rw p (or-true (eqb x.status status)) }

follows-set : (xs ys : List Row) (i status : ℕ) → pending (get_or ys i no_row) ≡ true → follows xs ys ≡ true
    → follows xs (set ys i (with_status status (get_or ys i no_row))) ≡ true
unfolding follows
follows-set [] ys i status e h = refl
follows-set (x ∷ xs) [] i status e h = cc
follows-set (x ∷ xs) (y ∷ ys) zero status e h =
    let w = (follows_cons x y xs ys).0 h in
    (follows_cons x (with_status status y) xs ys).1 (later_ends x y status e w.0, w.1)
follows-set (x ∷ xs) (y ∷ ys) (suc i) status e h =
    let w = (follows_cons x y xs ys).0 h in
    (follows_cons x y xs (set ys i (with_status status (get_or ys i no_row)))).1 (w.0, follows-set xs ys i status e w.1)

-- a pending row that ends
pub follows-mark : (xs ys : List Row) (n status : ℕ) → pending (nth ys n no_row) ≡ true → follows xs ys ≡ true
    → follows xs (mark n status ys) ≡ true
unfolding mark
follows-mark xs ys zero status e h = h
follows-mark xs ys (suc i) status e h = follows-set xs ys i status e h
