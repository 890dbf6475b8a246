-- What the bytes of a book hold of an operator, its guarantee in force and its maintenance; and what covers its exposure.
use Rattle.std.proofs.Common.{◌≡◌, ℕ, zero, suc, ◌+◌, ◌-◌, ◌*◌, ◌≤◌, Bool, true, false, List, [], map, length, replicate, sym, ap, ◌∙◌, arith, le-leb, leb-true}
use lib.ListN.{length-map, length-replicate}
use Rattle.wire.specs.Numbers.{number_at}
use Rattle.wire.proofs.SlotLaws.{map_get}
use Rattle.units.specs.Units.{cents}
use Rattle.units.specs.declared.Cents.{Cents}
use Rattle.rules.specs.declared.Operator.{Operator}
use Rattle.rules.specs.declared.Row.{Row}
use Rattle.rules.specs.Basics.{total, nth, Each, nil, cons}
use Rattle.rules.specs.Limits.{most_hours, most_energy, most_guarantee, thousand, book_size}
use Rattle.rules.specs.Books.{Setup, Part, Book, part_rows, maintenance_at, guarantee_at, operator_of, operator_count}
use Rattle.rules.specs.Opening.{counts_in, operators_in, setup_of, guarantee_width}
use Rattle.rules.specs.Registration.{pending, exposure, exposure_with, available, covered, covered_by}
use Rattle.rules.specs.declared.Counts.{Counts}
use Rattle.rules.proofs.Basics.Searches.{each_at, each_map}
use Rattle.setup.specs.Faults.{no_operator}
use Rattle.image.specs.Layout.{present_offset}
use Rattle.image.specs.Valid.{is_sound, book_in}
use Rattle.image.proofs.Sound.Soundness.{SoundRow}
use Rattle.image.proofs.Setups.SetupRanges.{SoundOperator, maintenance_of}
use Rattle.image.proofs.Reading.ImageReads.{guarantee_read}
use Rattle.book.specs.Members.{IsAccount, IsOperator}
use Rattle.book.specs.Worth.{sale_worth, TradeInRange}
use Rattle.book.proofs.StateLaws.{book_fits, book_is_sound, number_in_book}
use Rattle.book.proofs.WorthLaws.{exposure_more}
use Rattle.book.proofs.WorthParts.{rows_known}
use Rattle.book.proofs.BookRows.{counts_in_lem, setup_in_lem, values_in, caller_operator}
use Rattle.registration.specs.Cover.{covered_in_force}

maintenance_in_range : {os : List Operator} → Each SoundOperator os → Each (λ m. m ≤ thousand) (map (λ x. x.maintenance) os)
maintenance_in_range nil = nil
maintenance_in_range (cons p e) = cons p.1 (maintenance_in_range e)

-- the maintenance of an operator that was read
operator_maintenance : (os : List Operator) (o : ℕ) → 1 ≤ o → o ≤ length os
    → (nth os o no_operator).maintenance ≡ nth (map (λ x. x.maintenance) os) o 0
operator_maintenance os zero l h = absurd (omega arith)
operator_maintenance os (suc i) l h = sym (map_get (λ (x : Operator). x.maintenance) os i no_operator 0 (omega arith))

module _ (s : List ℕ) (h : is_sound s ≡ true) (o : ℕ) (own : IsOperator (book_in s) o) where
  pub operators_read : o ≤ (counts_in s).operators
  operators_read = omega (arith, own.1, ap (λ (m : Counts). m.operators) (counts_in_lem s h))

  pub maintenance_read : (x : Operator) → x ≡ nth (operators_in s) o no_operator → x.maintenance ≡ maintenance_at (book_in s).setup o
  unfolding setup_of
  maintenance_read x e =
      let u = setup_in_lem s h in
      let n : length (book_in s).setup.maintenance ≡ length (operators_in s) =
      ap (λ (u : Setup). length u.maintenance) u ∙ length-map (operators_in s) (λ y. y.maintenance) in
      ap (λ (y : Operator). y.maintenance) e
      ∙ operator_maintenance (operators_in s) o own.0 (omega (arith, own.1))
      ∙ ap (λ (u : Setup). maintenance_at u o) (sym u)

  all_maintenance : Each (λ m. m ≤ thousand) (book_in s).setup.maintenance
  all_maintenance =
      let ms : List ℕ = (book_in s).setup.maintenance in
      rw (maintenance_of (replicate (length ms) (cents 0)) ms (length-replicate {A = Cents} (length ms) (cents 0)))
      at (maintenance_in_range (values_in s h).operators_sound)

  pub maintenance_high : maintenance_at (book_in s).setup o ≤ thousand
  maintenance_high = go o own.0 own.1
    where
      go : (n : ℕ) → 1 ≤ n → n ≤ operator_count (book_in s).setup → maintenance_at (book_in s).setup n ≤ thousand
      go zero l m = absurd (omega arith)
      go (suc i) l m = each_at 0 i all_maintenance (omega arith)

  -- the guarantee in force, from its 8 bytes
  pub guarantee_stands : (at : ℕ) → at ≡ present_offset + guarantee_width * (o - 1)
      → (number_at s at 8 ≡ (guarantee_at (book_in s).part.guarantees o).0) × ((guarantee_at (book_in s).part.guarantees o).0 ≤ most_guarantee)
  guarantee_stands at e = go o own.0 own.1 e
    where
      go : (n : ℕ) → 1 ≤ n → n ≤ operator_count (book_in s).setup → at ≡ present_offset + guarantee_width * (n - 1)
          → (number_at s at 8 ≡ (guarantee_at (book_in s).part.guarantees n).0) × ((guarantee_at (book_in s).part.guarantees n).0 ≤ most_guarantee)
      go zero l m e = absurd (omega arith)
      go (suc i) l m e =
          let b : Book = book_in s in
          let part = (book_is_sound s h).part_sound in
          let all = part.guarantees_all in
          let small = each_at (cents 0) i part.guarantees_high (omega arith) in
          (number_in_book s h at 8 ∙ guarantee_read most_hours book_size b (book_fits s h) i at (omega arith) (omega arith) (omega arith), small)

-- ---- what covers an exposure

-- a part covers its operator by its own exposure and guarantee
pub covered_at_guarantee : (u : Setup) (p : Part) (o g : ℕ) → (guarantee_at p.guarantees o).0 ≡ g → covered u p o ≡ covered_by u (exposure u p.rows o) g o
unfolding covered available
covered_at_guarantee u p o g e = rw e

-- a part with other rows covers their exposure by the guarantee in force
pub covered_at : (b : Book) (after : List Row) (o owed : ℕ) → owed ≡ exposure b.setup after o
    → covered b.setup (part_rows b.part after) o ≡ covered_in_force b owed o
unfolding covered available
covered_at b after o owed e = rw e

-- in a book the exposure of each operator is at most what is available
pub exposure-available : (s : List ℕ) (o : ℕ) → is_sound s ≡ true → IsOperator (book_in s) o
    → exposure (book_in s).setup (book_in s).part.rows o
    ≤ (guarantee_at (book_in s).part.guarantees o).0 * (thousand - maintenance_at (book_in s).setup o)
unfolding covered available
exposure-available s o h own = leb-true _ _ ((book_is_sound s h).part_sound.is_covered o own.0 own.1)

-- so an exposure that is no more than that is covered
pub still_covered : (s : List ℕ) (a owed : ℕ) → is_sound s ≡ true → IsAccount (book_in s) a
    → owed ≤ exposure (book_in s).setup (book_in s).part.rows (operator_of (book_in s).setup a)
    → true ≡ covered_in_force (book_in s) owed (operator_of (book_in s).setup a)
still_covered s a owed h own no_more =
    let fits = exposure-available s (operator_of (book_in s).setup a) h (caller_operator s a h own) in sym (le-leb owed _ (omega arith))

-- a row that is not pending can be added
pub ended_row_in_range : (u : Setup) (r : Row) → r.quantity.0 ≤ most_energy → pending r ≡ false → TradeInRange u r
ended_row_in_range u r l f =
    record {
      quantity_high = l;
      proposer_known = λ e. absurd (not_both e f);
      hours_known = λ e. absurd (not_both e f);
    }
  where
    not_both : {t : Bool} → t ≡ true → t ≡ false → ⊥
    not_both e f = let z : true ≡ false = sym e ∙ f in let y : ◌≡◌ {A = ℕ} 0 1 = cc in omega arith

-- ---- pending rows more

-- the exposure with pending rows in is the one that stands and what each row adds as a sale
pub exposure_with-pending : (s : List ℕ) (o : ℕ) (added : List Row) → is_sound s ≡ true → Each (SoundRow (book_in s).setup) added
    → Each (λ r. pending r ≡ true) added → (standing more sum : ℕ)
    → standing ≡ exposure_with (book_in s).setup (book_in s).part.rows [] o → more ≡ total (sale_worth (book_in s).setup o) added
    → sum ≡ standing + more → sum ≡ exposure_with (book_in s).setup (book_in s).part.rows added o
exposure_with-pending s o added h known waits standing more sum e d f =
    f
    ∙ rw (e, d)
    (sym (exposure_more (book_in s).setup o (book_in s).part.rows added (rows_known s h o)
    (each_map (λ r w p. (w.proposer_low, w.proposer_high)) known)
    waits))
