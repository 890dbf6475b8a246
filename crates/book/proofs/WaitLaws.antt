-- The pending rows of one account, row by row: what the table holds and the pending sums of the rows that are left make those of all rows.
use Rattle.std.specs.Prelude.{if◌then◌else◌}
use Prim.Native.Nat.{ℕ, zero, suc, ◌+◌, ◌-◌, ◌*◌, ◌≤◌}
use mathlib.Core.Path.{◌≡◌, refl, sym, ap, ◌∙◌}
use mathlib.Core.List.{List, [], ◌∷◌, ◌++◌}
use mathlib.Core.Bool.{Bool, true, false, ◌&&◌, ◌||◌, and-true, and-false, or_assoc, or-false}
use native.Mathlib.Nat.{add-zero}
use native.Mathlib.Numerals.{add-one}
use native.Mathlib.Omega.{arith}
use lib.ListN.{length, get_or, drop, length-replicate}
use lib.Seq.{drop-cons, drop-length}
use lib.Dec.{eqb}
use borrow.Author.Tests.{eq-eqb, ne_eqb}
use Rattle.wire.specs.Numbers.{number_at}
use Rattle.rules.specs.declared.Row.{Row}
use Rattle.rules.specs.Basics.{total, any_passes, nth}
use Rattle.rules.specs.Limits.{most_energy, most_hours}
use Rattle.rules.specs.Books.{no_row}
use Rattle.rules.specs.Registration.{pending, includes_hour, alike, waiting}
use Rattle.rules.proofs.Basics.Searches.{any_step}
use Rattle.rules.proofs.Rows.Easing.{waiting-append}
use Rattle.image.specs.Layout.{present_offset, row_offset}
use Rattle.image.specs.Valid.{is_sound, book_in}
use Rattle.image.specs.Tables.{cell_of, InTable, Tabled, Raised}
use Rattle.image.proofs.Tables.SumLaws.{raised_cell, raised_most, zero_at}
use Rattle.image.proofs.Reading.RowBytes.{row_at}
use Rattle.book.specs.Members.{IsHour, IsRow, numbered_row}
use Rattle.book.specs.Waits.{wait_cell, Waits, WaitsOf, no_waits, WaitAdded, waits_size, tabled_hour, netted_hour}
use Rattle.book.proofs.StateLaws.{book_is_sound, numbered_row_stands}

-- ---- one row

-- a pending row of the account adds its quantity in its hours, on its side
waits_own : (r : Row) (a side h : ℕ) → r.status ≡ 1 → r.proposer ≡ a
    → waiting side (r ∷ []) a h ≡ (if includes_hour h r && eqb r.side side then r.quantity.0 else 0)
unfolding waiting total
waits_own r a side h e d = rw (e, eq-eqb r.proposer a d, and-true) (add-zero _)

-- another row adds nothing
waits_none : (r : Row) (a side h : ℕ) → pending r && eqb r.proposer a ≡ false → waiting side (r ∷ []) a h ≡ 0
unfolding waiting total
waits_none r a side h e = go (pending r) (includes_hour h r) (eqb r.proposer a) (eqb r.side side) e
  where
    go : (p c o s : Bool) → p && o ≡ false → (if p && c && o && s then r.quantity.0 else 0) + 0 ≡ 0
    go true true true s z = let y : ◌≡◌ {A = ℕ} 0 1 = cc in absurd (omega arith)
    go true true false s z = refl
    go true false o s z = refl
    go false c o s z = refl

-- the cells of a side are those that an account of this number has in the first lane of a table of sums
side_cell : (side h : ℕ) → cell_of most_hours 0 side h ≡ wait_cell side h
side_cell side h = omega arith

-- a pending row of the account is added by raising the cells of its hours
pub added_own : (before after : List ℕ) (r : Row) (a : ℕ) → Tabled most_hours r → 1 ≤ r.side → r.side ≤ 2 → r.status ≡ 1 → r.proposer ≡ a
    → Raised before after (wait_cell r.side r.first) (r.last - r.first + 1) r.quantity.0 → WaitAdded before after r a
added_own before after r a t sl sh e d w =
    record {
      share = λ side h i.
          let low : InTable most_hours r.side r.first =
          record { account_low = sl; account_high = omega arith; hour_low = t.first_low; hour_high = omega (arith, t.in_order, t.last_high) } in
          let high : InTable most_hours r.side r.last =
          record { account_low = sl; account_high = omega arith; hour_low = omega (arith, t.first_low, t.in_order); hour_high = t.last_high } in
          let cell : InTable most_hours side h =
          record { account_low = i.side_low; account_high = omega (arith, i.side_high); hour_low = i.hour_low; hour_high = i.hour_high } in
          let range : Raised before after (cell_of most_hours 0 r.side r.first) (r.last - r.first + 1) r.quantity.0 = rw (side_cell r.side r.first) w in
          (rw (side_cell side h) at (raised_cell most_hours 0 r.side r.first r.last 0 side h low high t.in_order cell before after r.quantity.0 range))
          ∙ ap (λ (x : ℕ). get_or before (wait_cell side h) 0 + x) (sym (waits_own r a side h e d));
      grown = λ k. omega (arith, raised_most before after _ _ _ w k, t.quantity_high);
    }

added_none : (table : List ℕ) (r : Row) (a : ℕ) → pending r && eqb r.proposer a ≡ false → WaitAdded table table r a
added_none table r a e =
    record { share = λ side h i. omega (arith, waits_none r a side h e); grown = λ k. omega arith }

-- ---- row by row

-- the table holds the pending sums of all rows but those that are left, and no cell is above the bound
pub record Waiting (a : ℕ) (all left : List Row) (table : List ℕ) (most : ℕ) : Type 0 where
  pub sums : (side h : ℕ) → Waits side h → get_or table (wait_cell side h) 0 + waiting side left a h ≡ waiting side all a h
  pub bounded : (k : ℕ) → get_or table k 0 ≤ most

waiting-step : (side a h : ℕ) (r : Row) (rows : List Row) → waiting side (r ∷ rows) a h ≡ waiting side (r ∷ []) a h + waiting side rows a h
unfolding waiting total
waiting-step side a h r rows = omega arith

waiting_done : (side a h : ℕ) → waiting side [] a h ≡ 0
unfolding waiting total
waiting_done side a h = refl

pub length-no_waits : (table : List ℕ) → table ≡ no_waits → length table ≡ waits_size
unfolding no_waits
length-no_waits table e = rw e (length-replicate {A = ℕ} waits_size 0)

pub waiting_first : (a : ℕ) (rows : List Row) (table : List ℕ) (most : ℕ) → table ≡ no_waits → Waiting a rows rows table most
unfolding no_waits
waiting_first a rows table most e =
    rw e (record { sums = λ side h i. omega (arith, zero_at waits_size (wait_cell side h)); bounded = λ k. omega (arith, zero_at waits_size k) })

-- one row less is left
pub waits_next : (a : ℕ) (all left : List Row) (r : Row) (before after : List ℕ) (n : ℕ) → WaitAdded before after r a
    → Waiting a all (r ∷ left) before (n * most_energy) → Waiting a all left after ((n + 1) * most_energy)
waits_next a all left r before after n w f =
    record {
      sums = λ side h i. omega (arith, w.share side h i, f.sums side h i, waiting-step side a h r left);
      bounded = λ k. omega (arith, w.grown k, f.bounded k);
    }

-- none is left
pub waits_all : (a : ℕ) (all : List Row) (table : List ℕ) → length table ≡ waits_size → Waiting a all [] table (length all * most_energy) → WaitsOf all a table
waits_all a all table n f =
    record {
      whole = n;
      waits_at = λ side h i. omega (arith, f.sums side h i, waiting_done side a h);
      bounded = λ k. omega (arith, f.bounded k);
    }

-- the same by the number of the row
pub waiting-next : (a : ℕ) (rows : List Row) (n : ℕ) (before after : List ℕ) → 1 ≤ n → n ≤ length rows → WaitAdded before after (nth rows n no_row) a
    → Waiting a rows (drop (n - 1) rows) before ((n - 1) * most_energy) → Waiting a rows (drop (n + 1 - 1) rows) after ((n + 1 - 1) * most_energy)
waiting-next a rows zero before after low high w f = absurd (omega arith)
waiting-next a rows (suc i) before after low high w f =
    let here : suc i - 1 ≡ i = omega arith in
    let next : suc i + 1 - 1 ≡ suc i = omega arith in
    let left : Waiting a rows (get_or rows i no_row ∷ drop (suc i) rows) before (i * most_energy) = rw (here, drop-cons rows i no_row (omega arith)) at f in
    rw next (rw (add-one i) at (waits_next a rows (drop (suc i) rows) (get_or rows i no_row) before after i w left))

pub waiting_last : (a : ℕ) (rows : List Row) (k : ℕ) (table : List ℕ) → k ≡ length rows → length table ≡ waits_size
    → Waiting a rows (drop k rows) table (k * most_energy) → WaitsOf rows a table
waiting_last a rows k table e n f = waits_all a rows table n (rw (e, drop-length rows) at f)

-- ---- rows more, behind those that the table holds

pub waits_with : (a : ℕ) (rows added : List Row) (table : List ℕ) → WaitsOf rows a table → Waiting a (rows ++ added) added table (length rows * most_energy)
waits_with a rows added table w =
    record {
      sums = λ side h i. omega (arith, w.waits_at side h i, waiting-append side rows added a h);
      bounded = λ k. omega (arith, w.bounded k);
    }

-- ---- a book

-- the first byte of a row is its proposer, the last its status
pub own_stands : (s : List ℕ) (h : is_sound s ≡ true) (n at : ℕ) → IsRow (book_in s) n → at ≡ present_offset + row_offset (n - 1)
    → (number_at s at 1 ≡ (numbered_row (book_in s) n).proposer) × (number_at s (at + 17) 1 ≡ (numbered_row (book_in s) n).status)
own_stands s h n at own e =
    let r = sym (row_at s at) ∙ numbered_row_stands s h n at own e in
    (ap (λ (x : Row). x.proposer) r, ap (λ (x : Row). x.status) r)

-- a row of another account adds nothing, nor does one that is not pending
pub added_of_others : (table : List ℕ) (r : Row) (a x : ℕ) → x ≡ r.proposer → (x ≡ a → ⊥) → WaitAdded table table r a
added_of_others table r a x e n = added_none table r a (rw (ne_eqb r.proposer a (λ d. n (e ∙ d))) (and-false (pending r)))

pub added_of_ended : (table : List ℕ) (r : Row) (a x : ℕ) → x ≡ r.status → (x ≡ 1 → ⊥) → WaitAdded table table r a
added_of_ended table r a x e n = added_none table r a (rw (ne_eqb r.status 1 (λ d. n (e ∙ d))))

-- ---- a row with this proposer, counterparty and code

module _ (r : Row) (a counterparty code x : ℕ) where
  -- a row of another account is none, nor is one that is not pending
  pub others_unlike : x ≡ r.proposer → (x ≡ a → ⊥) → false ≡ alike a counterparty code r
  unfolding alike
  others_unlike e n = rw (ne_eqb r.proposer a (λ d. n (e ∙ d)), and-false (pending r))

  pub ended_unlike : x ≡ r.status → (x ≡ 1 → ⊥) → false ≡ alike a counterparty code r
  unfolding alike
  ended_unlike e n = rw (ne_eqb r.status 1 (λ d. n (e ∙ d)))

-- of a pending row of the account the counterparty and the code decide
pub own_alike : (r : Row) (a counterparty code : ℕ) → r.status ≡ 1 → r.proposer ≡ a
    → (eqb r.counterparty counterparty && eqb r.code code) ≡ alike a counterparty code r
unfolding alike
own_alike r a counterparty code e d = rw (e, eq-eqb r.proposer a d)

-- ---- whether some row passes a test, number by number: one that was found, or one that is left

module _ (p : Row → Bool) (rows : List Row) where
  pub told_next : (n : ℕ) (found here : Bool) → 1 ≤ n → n ≤ length rows → here ≡ p (nth rows n no_row)
      → found || any_passes p (drop (n - 1) rows) ≡ any_passes p rows → (found || here) || any_passes p (drop (n + 1 - 1) rows) ≡ any_passes p rows
  told_next zero found here low high e h = absurd (omega arith)
  told_next (suc i) found here low high e h =
      let this : suc i - 1 ≡ i = omega arith in
      let next : suc i + 1 - 1 ≡ suc i = omega arith in
      let split : any_passes p (drop i rows) ≡ here || any_passes p (drop (suc i) rows) =
      rw (drop-cons rows i no_row (omega arith), e) (any_step p (get_or rows i no_row) (drop (suc i) rows)) in
      rw next (or_assoc found here (any_passes p (drop (suc i) rows)) ∙ ap (λ (b : Bool). found || b) (sym split) ∙ rw this at h)

  pub told_last : (k : ℕ) (found : Bool) → k ≡ length rows → found || any_passes p (drop k rows) ≡ any_passes p rows → found ≡ any_passes p rows
  unfolding any_passes
  told_last k found e h = sym (or-false found) ∙ rw (e, drop-length rows) at h

-- a side and an hour of the set-up have their cell
pub side_hour : (s : List ℕ) → is_sound s ≡ true → (side h : ℕ) → 1 ≤ side → side ≤ 2 → IsHour (book_in s) h → Waits side h
side_hour s b side h low high i =
    record { side_low = low; side_high = high; hour_low = i.0; hour_high = omega (arith, i.1, (book_is_sound s b).setup_sound.hours_high) }

-- what is read off a table of the account's pending sums among the rows
pub tabled_netted : (s : List ℕ) → is_sound s ≡ true → (rows : List Row) (a h : ℕ) (table : List ℕ) → WaitsOf rows a table → IsHour (book_in s) h
    → tabled_hour rows table a h ≡ netted_hour rows a h
tabled_netted s b rows a h table w i =
    rw (w.waits_at 1 h (side_hour s b 1 h (omega arith) (omega arith) i), w.waits_at 2 h (side_hour s b 2 h (omega arith) (omega arith) i))

-- ---- by the place of the row's bytes

-- a row of another account, by its first byte
pub others_wait : (s table : List ℕ) (n at x a : ℕ) → is_sound s ≡ true → IsRow (book_in s) n → at ≡ present_offset + row_offset (n - 1)
    → x ≡ number_at s at 1 → (x ≡ a → ⊥) → WaitAdded table table (numbered_row (book_in s) n) a
others_wait s table n at x a k i e f d = added_of_others table _ a x (f ∙ (own_stands s k n at i e).0) d

pub others_told : (s : List ℕ) (n at x a counterparty code : ℕ) → is_sound s ≡ true → IsRow (book_in s) n → at ≡ present_offset + row_offset (n - 1)
    → x ≡ number_at s at 1 → (x ≡ a → ⊥) → false ≡ alike a counterparty code (numbered_row (book_in s) n)
others_told s n at x a counterparty code k i e f d = others_unlike _ a counterparty code x (f ∙ (own_stands s k n at i e).0) d
