-- What the readings answer, by the tests that code makes: the lowest bit that is out of range, else the figure. A net within the margins is
-- read from its 4 bytes, as it is nearer to zero than 2^31.
use Rattle.std.specs.Prelude.{if◌then◌else◌, Ok, Err, Option, Some}
use Prim.Native.Nat.{ℕ, ◌+◌, ◌-◌, ◌*◌, ◌%◌, ◌^◌, ◌≤◌}
use mathlib.Core.Path.{◌≡◌, refl, sym, ap, ◌∙◌}
use mathlib.Core.List.{List, [], ◌∷◌}
use mathlib.Core.Bool.{Bool, true, false, not}
use native.Mathlib.Omega.{arith}
use lib.Dec.{leb, ltb}
use borrow.Author.Tests.{ltb-true, ltb-false, lt-ltb, le-ltb, leb-true, not-false}
use Rattle.wire.specs.Numbers.{number_at}
use Rattle.units.specs.declared.MilliCents.{MilliCents}
use Rattle.units.specs.Units.{kwh, milli_cents}
use Rattle.rules.specs.declared.Counts.{Counts}
use Rattle.rules.specs.declared.Margins.{Margins}
use Rattle.rules.specs.declared.AccountHour.{AccountHour}
use Rattle.rules.specs.declared.Position.{Position}
use Rattle.rules.specs.declared.Position.TheVariants.{Long, Short}
use Rattle.rules.specs.declared.Refusal.{Refusal}
use Rattle.rules.specs.declared.Refusal.TheVariants.{OutOfRange}
use Rattle.rules.specs.Basics.{within}
use Rattle.rules.specs.Limits.{most_energy, most_hours, book_size}
use Rattle.rules.specs.Books.{Setup, margins_at, operator_count, account_count, periods}
use Rattle.rules.specs.Opening.{counts_in, setup_of}
use Rattle.rules.specs.Registration.{bought, sold, net_of, account_hour, keeps_margins, exposure, hourly_exposure}
use Rattle.rules.specs.Verdicts.{Check, ◌⇒◌, first_to_apply}
use Rattle.rules.specs.Readings.{position, net_checks, net_reading_of, net_reading, exposure_checks, exposure_reading_of, exposure_reading, hourly_exposure_checks, hourly_exposure_reading}
use Rattle.rules.proofs.Basics.Tests.{and_both, within_true}
use Rattle.rules.proofs.Checks.Clearing.{clear_applies}
use Rattle.image.specs.Layout.{present_offset, net_offset, net_width}
use Rattle.image.specs.Valid.{is_sound, book_in}
use Rattle.image.specs.Tables.{InTable}
use Rattle.book.specs.Members.{IsAccount, IsHour}
use Rattle.image.proofs.Writing.Sizes.{fits}
use Rattle.image.proofs.Setups.SetupRanges.{margins_in_range}
use Rattle.image.proofs.Round.{sound_is_image}
use Rattle.image.proofs.Reading.ImageReads.{net_read}
use Rattle.book.proofs.StateLaws.{book_is_sound}
use Rattle.book.proofs.BookRows.{counts_in_lem, setup_in_lem, values_in}

-- ---- a stored net

-- 4 bytes of a net that is nearer to zero than 2^31 say its position
pub stored_position : (b s v : ℕ) → v ≡ (b + (256 ^ net_width - 1) * s) % 256 ^ net_width → s ≤ b + most_energy → b ≤ s + most_energy
    → position (record { bought = kwh b; sold = kwh s }) ≡ (if ltb v (2 ^ 31) then Long (kwh v) else Short (kwh (2 ^ 32 - v)))
unfolding position
stored_position b s v e low high = go (ltb b s) refl
  where
    go : (t : Bool) → ltb b s ≡ t
        → (if t then Short (kwh (s - b)) else Long (kwh (b - s))) ≡ (if ltb v (2 ^ 31) then Long (kwh v) else Short (kwh (2 ^ 32 - v)))
    go true t =
        let less = ltb-true b s t in
        let back : s - b ≡ 4294967296 - v = omega arith in
        rw (le-ltb v 2147483648 (omega arith), back)
    go false t =
        let more = ltb-false b s t in
        let same : b - s ≡ v = omega arith in
        rw (lt-ltb v 2147483648 (omega arith), same)

-- ---- tests in rank

applies_here : (t : Bool) (r : Refusal) (cs : List Check) → t ≡ true → first_to_apply ((t ⇒ r) ∷ cs) ≡ Some r
unfolding first_to_apply
applies_here t r cs e = rw (e, first_to_apply)

applies_past : (t : Bool) (r : Refusal) (cs : List Check) → t ≡ false → first_to_apply ((t ⇒ r) ∷ cs) ≡ first_to_apply cs
unfolding first_to_apply
applies_past t r cs e = rw (e, first_to_apply)

-- margins in range keep the two sums of a net near each other
margins_near : (margins : Margins) (x : AccountHour) → (margins.lower.0 ≤ most_energy) × (margins.upper.0 ≤ most_energy) → keeps_margins margins x ≡ true
    → (x.net.sold.0 ≤ x.net.bought.0 + most_energy) × (x.net.bought.0 ≤ x.net.sold.0 + most_energy)
unfolding keeps_margins
margins_near margins x small h =
    let owed = x.net.sold.0 + x.sales.0 in
    let lower = x.net.bought.0 + margins.lower.0 in
    let due = x.net.bought.0 + x.purchases.0 in
    let upper = x.net.sold.0 + margins.upper.0 in
    let w = (and_both (leb owed lower) (leb due upper)).0 h in
    (omega (arith, leb-true owed lower w.0, small.0), omega (arith, leb-true due upper w.1, small.1))

-- ---- the net of an account hour of a book

module _ (s : List ℕ) (h : is_sound s ≡ true) (a t : ℕ) (i : IsAccount (book_in s) a) (j : IsHour (book_in s) t)
  where
    -- it is within the margins
    pub net_near : (sold (book_in s).part.rows a t ≤ bought (book_in s).part.rows a t + most_energy) × (bought (book_in s).part.rows a t ≤ sold (book_in s).part.rows a t + most_energy)
    net_near =
        let u : Setup = (book_in s).setup in
        margins_near (margins_at u a t) (account_hour (book_in s).part.rows a t) (margins_in_range u _ a t (values_in s h))
        ((book_is_sound s h).part_sound.keeps_margins a t i.0 i.1 j.0 j.1)

    -- it has its place
    pub net_has_place : InTable most_hours a t
    net_has_place =
        let k = (book_is_sound s h).setup_sound in
        record {
          account_low = i.0;
          account_high = omega (arith, i.1, k.accounts_high);
          hour_low = j.0;
          hour_high = omega (arith, j.1, k.hours_high);
        }

    -- where 4 bytes hold it
    pub net_stored_lem : (v : ℕ) → v ≡ number_at s (present_offset + net_offset most_hours a t) 4
        → v ≡ (bought (book_in s).part.rows a t + (256 ^ net_width - 1) * sold (book_in s).part.rows a t) % 256 ^ net_width
    net_stored_lem v q =
        let k = net_has_place in
        let at : ℕ = present_offset + net_offset most_hours a t in
        q
        ∙ ap (λ (z : List ℕ). number_at z at 4) (sound_is_image most_hours book_size s h).0
        ∙ net_read most_hours book_size (book_in s) (fits (book_in s) (book_is_sound s h)) a t at k.account_low k.account_high k.hour_low k.hour_high refl

-- ---- the readings of a book with these counts

module _ (s : List ℕ) (h : is_sound s ≡ true) (n : Counts) (e : n ≡ counts_in s) where
  abbrev u : Setup
  u = (book_in s).setup

  accounts_counted : account_count u ≡ n.accounts
  accounts_counted = ap (λ (c : Counts). c.accounts) (counts_in_lem s h ∙ sym e)

  hours_counted : periods u ≡ n.hours
  hours_counted = ap (λ (c : Counts). c.hours) (counts_in_lem s h ∙ sym e)

  operators_counted : operator_count u ≡ n.operators
  operators_counted = ap (λ (c : Counts). c.operators) (counts_in_lem s h ∙ sym e)

  by_hour : (t : ℕ) {x : Bool} → not (within 1 t n.hours) ≡ x → not (within 1 t (periods u)) ≡ x
  by_hour t x = ap (λ (m : ℕ). not (within 1 t m)) hours_counted ∙ x

  module _ (a t : ℕ) where
    abbrev net : Position
    net = position (net_of (book_in s).part.rows a t)

    by_account : {o : Bool} → not (within 1 a n.accounts) ≡ o → not (within 1 a (account_count u)) ≡ o
    by_account x = ap (λ (m : ℕ). not (within 1 a m)) accounts_counted ∙ x

    pub net_no_account : not (within 1 a n.accounts) ≡ true → net_reading (book_in s) a t ≡ Err (OutOfRange 1)
    unfolding net_reading
    net_no_account x = ap (λ (o : Option Refusal). net_reading_of o net) (applies_here _ _ _ (by_account x))

    pub net_no_hour : not (within 1 a n.accounts) ≡ false → not (within 1 t n.hours) ≡ true → net_reading (book_in s) a t ≡ Err (OutOfRange 5)
    unfolding net_reading
    net_no_hour x y = ap (λ (o : Option Refusal). net_reading_of o net) (applies_past _ _ _ (by_account x) ∙ applies_here _ _ [] (by_hour t y))

    module _ (x : not (within 1 a n.accounts) ≡ false) (y : not (within 1 t n.hours) ≡ false) where
      account_inside : IsAccount (book_in s) a
      account_inside = (within_true 1 a (account_count u)).0 (not-false _ (by_account x))

      hour_inside : IsHour (book_in s) t
      hour_inside = (within_true 1 t (periods u)).0 (not-false _ (by_hour t y))

      pub net_in_table : InTable most_hours a t
      net_in_table = net_has_place s h a t account_inside hour_inside

      pub net_stands : (v : ℕ) → v ≡ number_at s (present_offset + net_offset most_hours a t) 4
          → net_reading (book_in s) a t ≡ Ok (if ltb v (2 ^ 31) then Long (kwh v) else Short (kwh (2 ^ 32 - v)))
      unfolding net_reading
      net_stands v q =
          let near = net_near s h a t account_inside hour_inside in
          let stored = net_stored_lem s h a t account_inside hour_inside v q in
          ap (λ (o : Option Refusal). net_reading_of o net) (clear_applies (net_checks (book_in s) a t) (rw (by_account x), (rw (by_hour t y), tt)))
          ∙ ap Ok (stored_position _ _ v stored near.0 near.1)

  by_operator : (o : ℕ) {x : Bool} → not (within 1 o n.operators) ≡ x → not (within 1 o (operator_count u)) ≡ x
  by_operator o x = ap (λ (m : ℕ). not (within 1 o m)) operators_counted ∙ x

  module _ (o : ℕ) where
    pub exposure-no_operator : not (within 1 o n.operators) ≡ true → exposure_reading (book_in s) o ≡ Err (OutOfRange 9)
    unfolding exposure_reading
    exposure-no_operator x =
        ap (λ (y : Option Refusal). exposure_reading_of y (exposure u (book_in s).part.rows o)) (applies_here _ _ _ (by_operator o x))

    pub exposure_stands : (m : MilliCents) → not (within 1 o n.operators) ≡ false → m.0 ≡ exposure (setup_of s) (book_in s).part.rows o
        → exposure_reading (book_in s) o ≡ Ok m
    unfolding exposure_reading
    exposure_stands m x y =
        ap (λ (z : Option Refusal). exposure_reading_of z (exposure u (book_in s).part.rows o)) (clear_applies (exposure_checks (book_in s) o) (rw (by_operator o x), tt))
        ∙ ap (λ (z : ℕ). Ok (milli_cents z)) (ap (λ (z : Setup). exposure z (book_in s).part.rows o) (setup_in_lem s h) ∙ sym y)

  module _ (o t : ℕ) where
    abbrev money : ℕ
    money = hourly_exposure u (book_in s).part.rows o t

    pub hourly_no_hour : not (within 1 t n.hours) ≡ true → hourly_exposure_reading (book_in s) o t ≡ Err (OutOfRange 5)
    unfolding hourly_exposure_reading
    hourly_no_hour x = ap (λ (y : Option Refusal). exposure_reading_of y money) (applies_here _ _ _ (by_hour t x))

    module _ (x : not (within 1 t n.hours) ≡ false) where
      pub hourly_hour_inside : IsHour (book_in s) t
      hourly_hour_inside = (within_true 1 t (periods u)).0 (not-false _ (by_hour t x))

      pub hourly-no_operator : not (within 1 o n.operators) ≡ true → hourly_exposure_reading (book_in s) o t ≡ Err (OutOfRange 9)
      unfolding hourly_exposure_reading
      hourly-no_operator y =
          ap (λ (z : Option Refusal). exposure_reading_of z money) (applies_past _ _ _ (by_hour t x) ∙ applies_here _ _ [] (by_operator o y))

      pub hourly_stands : (m : MilliCents) → not (within 1 o n.operators) ≡ false → m.0 ≡ money
          → hourly_exposure_reading (book_in s) o t ≡ Ok m
      unfolding hourly_exposure_reading
      hourly_stands m y e =
          ap (λ (z : Option Refusal). exposure_reading_of z money)
          (clear_applies (hourly_exposure_checks (book_in s) o t) (rw (by_hour t x), (rw (by_operator o y), tt)))
          ∙ ap (λ (z : ℕ). Ok (milli_cents z)) (sym e)
