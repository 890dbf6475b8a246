-- What a change makes of a sound part is sound, where it brings what it needs: each account is eased, or is the caller's, which was checked anew; so is each
-- operator.
use Rattle.std.specs.Prelude.{None}
use Prim.Native.Nat.{ℕ, zero, suc, ◌+◌, ◌≤◌}
use mathlib.Core.Path.{◌≡◌, refl, sym, ap, ◌∙◌}
use mathlib.Core.Logic.{⊎_elim}
use mathlib.Core.List.{List, ◌++◌, map}
use mathlib.Core.Bool.{Bool, true, false, not}
use native.Mathlib.Omega.{arith}
use lib.ListN.{length, length-append, length-map, length-set}
use lib.Dec.{eqb}
use borrow.Author.Tests.{eqb-true, eqb-false, not-false}
use Rattle.units.specs.declared.Cents.{Cents}
use Rattle.rules.specs.declared.Row.{Row}
use Rattle.rules.specs.declared.Request.{Request}
use Rattle.rules.specs.Basics.{any_passes, nth, put, up_to, Each}
use Rattle.rules.specs.Limits.{most_guarantee, most_rows}
use Rattle.rules.specs.Books.{Setup, Part, part_guarantees, part_rows, no_row, operator_of, periods, margins_at}
use Rattle.rules.specs.Registration.{pending, has_twin, twins, mark, closed, proposed, account_hour, keeps_margins, broken_hour, available, covered}
use Rattle.rules.proofs.Basics.Searches.{put_place, any_none, find_none, counted_has, each_append, each_map, each_image, each_nth}
use Rattle.rules.proofs.Rows.RowChanges.{each_mark, each_closed, length-mark, length-closed}
use Rattle.rules.proofs.Rows.AccountHours.{pending_inside}
use Rattle.rules.proofs.Rows.Easing.{Eased, eased_margins, eased_covered}
use Rattle.image.specs.Valid.{no_twins}
use Rattle.image.proofs.Sound.Soundness.{SoundRow}
use Rattle.image.proofs.Sound.SoundBooks.{SoundPart}
use Rattle.image.proofs.Keeping.KeepsRows.{each_set, row_marked, twins_added, twins-mark, twins-closed}
use Rattle.image.proofs.Keeping.Easing.{ProposedBy, added_eases_others, confirm_eases_others, withdraw_eases, close_eases}

-- no hour breaks a margin of the account
pub unbroken : (u : Setup) (rows : List Row) (a : ℕ) → broken_hour u rows a ≡ None
    → (h : ℕ) → 1 ≤ h → h ≤ periods u → keeps_margins (margins_at u a h) (account_hour rows a h) ≡ true
unfolding broken_hour
unbroken u rows a e h l m =
    let unbroken = find_none (λ h. not (keeps_margins (margins_at u a h) (account_hour rows a h))) (up_to (periods u)) e in
    not-false _ (counted_has (periods u) 1 h unbroken l (omega arith))

-- ---- every account but the caller's is eased, the caller's and its operator's sums are checked

module _ (u : Setup) (gs : List Cents) (rows later : List Row) (caller : ℕ)
    (eased : (a h : ℕ) → (a ≡ caller → ⊥) → Eased (account_hour rows a h) (account_hour later a h)) where
  margins_kept : broken_hour u later caller ≡ None → (a h : ℕ) → 1 ≤ h → h ≤ periods u
      → keeps_margins (margins_at u a h) (account_hour rows a h) ≡ true → keeps_margins (margins_at u a h) (account_hour later a h) ≡ true
  margins_kept checked a h l m old = go (eqb a caller) refl
    where
      go : (t : Bool) → eqb a caller ≡ t → keeps_margins (margins_at u a h) (account_hour later a h) ≡ true
      go true e = rw (eqb-true a caller e) (unbroken u later caller checked h l m)
      go false e = eased_margins (margins_at u a h) _ _ (eased a h (eqb-false a caller e)) old

  covered_kept : covered u (record { guarantees = gs; rows = later }) (operator_of u caller) ≡ true → (o : ℕ)
      → covered u (record { guarantees = gs; rows = rows }) o ≡ true → covered u (record { guarantees = gs; rows = later }) o ≡ true
  covered_kept checked o old = go (eqb o (operator_of u caller)) refl
    where
      go : (t : Bool) → eqb o (operator_of u caller) ≡ t → covered u (record { guarantees = gs; rows = later }) o ≡ true
      go true e = rw (eqb-true o (operator_of u caller) e) checked
      go false e =
          eased_covered u gs rows later o
          (λ a h owns. eased a h (λ same. eqb-false o (operator_of u caller) e (sym owns ∙ ap (operator_of u) same)))
          old

-- ---- a guarantee replaced

module _ {A : Type 0} where
  pub length_put : (l : List A) (n : ℕ) (x : A) → length (put l n x) ≡ length l
  length_put l zero x = refl
  length_put l (suc i) x = length-set l i x

  nth_put_other : (l : List A) (n k : ℕ) (x d : A) → (k ≡ n → ⊥) → nth (put l n x) k d ≡ nth l k d
  nth_put_other l n k x d other = ⊎_elim (λ w. absurd (other (sym w.0))) (λ w. w.0) (put_place l n k x d)

each_put : {A : Type 0} {P : A → Type 0} {xs : List A} {x : A} → Each P xs → (n : ℕ) → P x → Each P (put xs n x)
each_put e zero p = e
each_put e (suc i) p = each_set e i p

-- the others' guarantees stand
covered_by_others : (u : Setup) (p : Part) (n o : ℕ) (g : Cents) → (o ≡ n → ⊥) → covered u p o ≡ true
    → covered u (record { guarantees = put p.guarantees n g; rows = p.rows }) o ≡ true
unfolding covered available
covered_by_others u p n o g other h = rw (nth_put_other p.guarantees n o g (record { 0 = 0 }) other) h

-- ---- what a change needs, and makes of a sound part

-- rows that one account proposes, together with those that stand: sound, like no other, not too many, its margins and guarantee kept
pub record Addable (u : Setup) (p : Part) (rows : List Row) : Type 0 where
  pub caller : ℕ
  pub proposed : Each (ProposedBy caller) rows
  pub all_sound : Each (SoundRow u) rows
  pub none_alike : no_twins (p.rows ++ rows) ≡ true
  pub few : length p.rows + length rows ≤ most_rows
  pub unbroken : broken_hour u (p.rows ++ rows) caller ≡ None
  pub backed : covered u (part_rows p (p.rows ++ rows)) (operator_of u caller) ≡ true

-- a pending row that gets another status, which keeps every margin and guarantee
pub record Endable (u : Setup) (p : Part) (number status : ℕ) : Type 0 where
  pub waits : pending (nth p.rows number no_row) ≡ true
  pub status_low : 1 ≤ status
  pub status_high : status ≤ 3
  pub ends : eqb status 1 ≡ false
  pub margins : (a h : ℕ) → 1 ≤ h → h ≤ periods u → keeps_margins (margins_at u a h) (account_hour p.rows a h) ≡ true
      → keeps_margins (margins_at u a h) (account_hour (mark number status p.rows) a h) ≡ true
  pub backed : (o : ℕ) → covered u p o ≡ true → covered u (part_rows p (mark number status p.rows)) o ≡ true

-- a guarantee in range that covers its operator
pub record Coverable (u : Setup) (p : Part) (o : ℕ) (g : Cents) : Type 0 where
  pub high : g.0 ≤ most_guarantee
  pub backed : covered u (part_guarantees p (put p.guarantees o g)) o ≡ true

module _ (u : Setup) (p : Part) (sound : SoundPart u p) where
  pub part_added : (rows : List Row) → Addable u p rows → SoundPart u (part_rows p (p.rows ++ rows))
  part_added rows w =
      let eased : (a h : ℕ) → (a ≡ w.caller → ⊥) → Eased (account_hour p.rows a h) (account_hour (p.rows ++ rows) a h) =
      λ a h other. added_eases_others p.rows w.caller a h w.proposed other in
      record {
        guarantees_all = sound.guarantees_all;
        guarantees_high = sound.guarantees_high;
        rows_high = omega (arith, length-append p.rows rows, w.few);
        rows_sound = each_append sound.rows_sound w.all_sound;
        no_twins = w.none_alike;
        keeps_margins = λ a h al ah hl hh. margins_kept u p.guarantees p.rows _ w.caller eased w.unbroken a h hl hh (sound.keeps_margins a h al ah hl hh);
        is_covered = λ o ol oh. covered_kept u p.guarantees p.rows _ w.caller eased w.backed o (sound.is_covered o ol oh);
      }

  pub part_ended : (number status : ℕ) → Endable u p number status → SoundPart u (part_rows p (mark number status p.rows))
  part_ended number status w =
      record {
        guarantees_all = sound.guarantees_all;
        guarantees_high = sound.guarantees_high;
        rows_high = rw length-mark sound.rows_high;
        rows_sound = each_mark number status (row_marked u status w.status_low w.status_high) sound.rows_sound;
        no_twins = twins-mark p.rows number status w.ends sound.no_twins;
        keeps_margins = λ a h al ah hl hh. w.margins a h hl hh (sound.keeps_margins a h al ah hl hh);
        is_covered = λ o ol oh. w.backed o (sound.is_covered o ol oh);
      }

  pub part_closed : SoundPart u (record { guarantees = p.guarantees; rows = closed p.rows })
  part_closed =
      record {
        guarantees_all = sound.guarantees_all;
        guarantees_high = sound.guarantees_high;
        rows_high = rw length-closed sound.rows_high;
        rows_sound = each_closed (row_marked u 3 (omega arith) (omega arith)) sound.rows_sound;
        no_twins = twins-closed p.rows;
        keeps_margins = λ a h al ah hl hh. eased_margins (margins_at u a h) _ _ (close_eases p.rows a h) (sound.keeps_margins a h al ah hl hh);
        is_covered = λ o ol oh. eased_covered u p.guarantees p.rows _ o (λ a h owns. close_eases p.rows a h) (sound.is_covered o ol oh);
      }

  -- the operator whose guarantee is replaced is checked
  pub part_guaranteed : (n : ℕ) (g : Cents) → Coverable u p n g → SoundPart u (part_guarantees p (put p.guarantees n g))
  part_guaranteed n g w =
      record {
        guarantees_all = length_put p.guarantees n g ∙ sound.guarantees_all;
        guarantees_high = each_put sound.guarantees_high n w.high;
        rows_high = sound.rows_high;
        rows_sound = sound.rows_sound;
        no_twins = sound.no_twins;
        keeps_margins = sound.keeps_margins;
        is_covered = λ o ol oh. go o (sound.is_covered o ol oh) (eqb o n) refl;
      }
    where
      go : (o : ℕ) → covered u p o ≡ true → (t : Bool) → eqb o n ≡ t
          → covered u (record { guarantees = put p.guarantees n g; rows = p.rows }) o ≡ true
      go o old true e = rw (eqb-true o n e) w.backed
      go o old false e = covered_by_others u p n o g (eqb-false o n e) old

  -- ---- what the kinds bring

  -- what a register and a strip propose
  pub requests_addable : (qs : List Request) (caller : ℕ) → Each (λ q. q.account ≡ caller) qs → Each (λ q. SoundRow u (proposed q)) qs
      → any_passes (has_twin p.rows) qs ≡ false → twins qs ≡ false → length p.rows + length qs ≤ most_rows
      → broken_hour u (p.rows ++ map proposed qs) caller ≡ None
      → covered u (part_rows p (p.rows ++ map proposed qs)) (operator_of u caller) ≡ true
      → Addable u p (map proposed qs)
  requests_addable qs caller own rows alone apart few unbroken backed =
      record {
        caller = caller;
        proposed = each_image proposed (each_map (λ q e. record { waits = refl; proposer = e }) own);
        all_sound = each_image proposed rows;
        none_alike = twins_added p.rows qs sound.no_twins (any_none _ qs alone) apart;
        few = omega (arith, few, length-map qs proposed);
        unbroken = unbroken;
        backed = backed;
      }

  -- confirm is checked for its caller, the row's counterparty, and the caller's operator
  pub confirm_endable : (n caller : ℕ) → pending (nth p.rows n no_row) ≡ true → (nth p.rows n no_row).counterparty ≡ caller
      → broken_hour u (mark n 2 p.rows) caller ≡ None
      → covered u (part_rows p (mark n 2 p.rows)) (operator_of u caller) ≡ true
      → Endable u p n 2
  confirm_endable n caller waits calls unbroken backed =
      let i = pending_inside p.rows n waits in
      let row : SoundRow u (nth p.rows n no_row) = each_nth no_row n sound.rows_sound i.0 i.1 in
      let eased : (a h : ℕ) → (a ≡ caller → ⊥) → Eased (account_hour p.rows a h) (account_hour (mark n 2 p.rows) a h) =
      λ a h other. confirm_eases_others p.rows n a h waits row.side_low row.side_high (λ e. other (e ∙ calls)) in
      record {
        waits = waits;
        status_low = omega arith;
        status_high = omega arith;
        ends = refl;
        margins = margins_kept u p.guarantees p.rows _ caller eased unbroken;
        backed = covered_kept u p.guarantees p.rows _ caller eased backed;
      }

  -- a withdrawal eases everybody
  pub withdraw_endable : (n : ℕ) → pending (nth p.rows n no_row) ≡ true → Endable u p n 3
  withdraw_endable n waits =
      record {
        waits = waits;
        status_low = omega arith;
        status_high = omega arith;
        ends = refl;
        margins = λ a h hl hh. eased_margins (margins_at u a h) _ _ (withdraw_eases p.rows n a h waits);
        backed = λ o. eased_covered u p.guarantees p.rows _ o (λ a h owns. withdraw_eases p.rows n a h waits);
      }
