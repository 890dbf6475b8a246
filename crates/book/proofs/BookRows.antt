-- The bytes of a book hold its set-up and its rows at their places, and what they say is in range: all that the sums, the margins and the
-- exposure ask of such bytes.
use Rattle.std.specs.Prelude.{Option}
use Prim.Native.Nat.{ℕ, zero, suc, ◌+◌, ◌*◌, ◌≤◌}
use mathlib.Core.Path.{◌≡◌, sym, ap, ◌∙◌}
use mathlib.Core.List.{List, []}
use mathlib.Core.Bool.{true}
use native.Mathlib.Omega.{arith}
use lib.ListN.{length, get_or, take, drop, replicate}
use Rattle.wire.specs.Numbers.{number, number_at}
use Rattle.wire.specs.Parts.{cut}
use Rattle.wire.proofs.PartLaws.{cut_at, inner}
use Rattle.wire.proofs.SlotLaws.{chunks_front}
use Rattle.units.specs.Units.{cents}
use Rattle.rules.specs.declared.Margins.{Margins}
use Rattle.rules.specs.declared.Counts.{Counts}
use Rattle.rules.specs.declared.Row.{Row}
use Rattle.rules.specs.declared.Refusal.{Refusal}
use Rattle.rules.specs.Verdicts.{Check, first_to_apply, checked, Checked}
use Rattle.rules.specs.Basics.{Each, entries}
use Rattle.rules.specs.Limits.{most_price, most_rows, most_hours, most_accounts, book_size}
use Rattle.rules.specs.Books.{Setup, Book, no_account, no_row, operator_of, counts_of, operator_count, account_count, periods, margins_at}
use Rattle.rules.specs.Opening.{counts_in, estimates_in, setup_of, operators_of}
use Rattle.rules.proofs.Basics.Searches.{each_map, each_nth, each_at}
use Rattle.rules.proofs.Setups.SetupEntries.{counts_of_setup}
use Rattle.rules.proofs.Checks.Clearing.{checked-same}
use Rattle.image.specs.Layout.{setup_room, row_width, part_widths, part_size, present_offset, row_count_offset, rows_offset, row_count_section, rows_section}
use Rattle.image.specs.Image.{part_of, part_in}
use Rattle.image.specs.Valid.{is_sound, book_in}
use Rattle.image.specs.Cells.{part_at, rows_from}
use Rattle.image.specs.Tables.{Tabled, SetupTabled}
use Rattle.image.proofs.Sound.Soundness.{SoundSetup, SoundRow}
use Rattle.image.proofs.Setups.SetupRanges.{InRange, values-in_range}
use Rattle.image.proofs.Setups.SetupAgain.{counts_first_bytes, setup_short, setup_in_front}
use Rattle.image.proofs.Reading.Places.{decode_places}
use Rattle.book.specs.Members.{IsAccount, IsOperator, IsRow, numbered_row}
use Rattle.book.proofs.StateLaws.{book_length, book_is_sound, row_count_stands}

-- ---- a part

-- the rows of a part lie side by side
pub part_rows_lem : (top operators : ℕ) (s : List ℕ) (at n : ℕ) → n ≡ number_at s (at + row_count_offset) 2 → n ≤ most_rows
    → (part_at top operators s at).rows ≡ rows_from s (at + rows_offset) n
unfolding part_in part_of entries rows_from number_at
part_rows_lem top operators s at n e l =
    let ws : List ℕ = part_widths top in
    let x : List ℕ = take (part_size top) (drop at s) in
    let count : number (get_or (cut ws x) row_count_section []) ≡ n = ap number (cut_at ws x row_count_section ∙ inner 2 row_count_offset (part_size top) at s (omega arith)) ∙ sym e in
    let place : get_or (cut ws x) rows_section [] ≡ take (row_width * most_rows) (drop (at + rows_offset) s) =
    cut_at ws x rows_section ∙ inner (row_width * most_rows) rows_offset (part_size top) at s (omega arith) in
    rw (count, place, chunks_front row_width n (row_width * most_rows) (drop (at + rows_offset) s) (omega arith))

-- the table of sums has room for a sound row
pub sound_tabled : (u : Setup) → SoundSetup u → (r : Row) → SoundRow u r → Tabled most_hours r
sound_tabled u k r s =
    record {
      proposer_low = s.proposer_low;
      proposer_high = omega (arith, s.proposer_high, k.accounts_high);
      counterparty_low = s.counterparty_low;
      counterparty_high = omega (arith, s.counterparty_high, k.accounts_high);
      first_low = s.first_low;
      in_order = s.in_order;
      last_high = omega (arith, s.last_high, k.hours_high);
      quantity_high = s.quantity_high;
    }

-- ---- bytes that are a book

module _ (s : List ℕ) (h : is_sound s ≡ true) where
  -- the counts are the first bytes
  pub counts_in_lem : counts_of (book_in s).setup ≡ counts_in s
  counts_in_lem =
      ap (λ (b : Book). counts_of b.setup) (decode_places most_hours book_size s)
      ∙ counts_of_setup (take setup_room s)
      ∙ counts_first_bytes setup_room s (omega arith)

  -- what checks on the counts came to, on those that a book begins with
  pub checks_found : (checks : Counts → List Check) (n : Counts) (x : Checked) (o : Option Refusal) → n ≡ counts_in s
      → x ≡ checked (first_to_apply (checks n)) → x ≡ checked o → first_to_apply (checks (counts_of (book_in s).setup)) ≡ o
  checks_found checks n x o e f g = ap (λ (m : Counts). first_to_apply (checks m)) (counts_in_lem ∙ sym e) ∙ checked-same _ o (sym f ∙ g)

  first_in : (book_in s).setup ≡ setup_of (take setup_room s)
  first_in = ap (λ (b : Book). b.setup) (decode_places most_hours book_size s)

  sound_first : SoundSetup (setup_of (take setup_room s))
  sound_first = rw first_in at (book_is_sound s h).setup_sound

  -- the set-up is what the whole bytes say
  pub setup_in_lem : (book_in s).setup ≡ setup_of s
  setup_in_lem = first_in ∙ setup_in_front s sound_first

  pub setup_tabled : SetupTabled most_hours s
  setup_tabled =
      let k = (book_is_sound s h).setup_sound in
      record {
        whole = omega (arith, book_length s h, setup_short s sound_first);
        accounts_high = omega (arith, ap (λ (n : Counts). n.accounts) counts_in_lem, k.accounts_high);
        hours_high = omega (arith, ap (λ (n : Counts). n.hours) counts_in_lem, k.hours_high);
      }

  pub values_in : InRange (book_in s).setup (operators_of (replicate (operator_count (book_in s).setup) (cents 0)) (book_in s).setup.maintenance)
  values_in = values-in_range (book_in s).setup _ (book_is_sound s h).setup_sound.in_range

  pub estimates_in_lem : Each (λ p. p.0 ≤ most_price) (estimates_in s)
  unfolding setup_of
  estimates_in_lem = rw (ap (λ (u : Setup). u.estimates) setup_in_lem) at values_in.estimates_sound

  pub rows_tabled : Each (Tabled most_hours) (book_in s).part.rows
  rows_tabled = each_map (sound_tabled (book_in s).setup (book_is_sound s h).setup_sound) (book_is_sound s h).part_sound.rows_sound

  -- the counts and the margins, as they were read
  pub hours_read : (n : Counts) → n ≡ counts_in s → n.hours ≡ periods (book_in s).setup
  hours_read n e = ap (λ (m : Counts). m.hours) (e ∙ sym (counts_in_lem))

  pub margins_read : (x : Margins) (a k : ℕ) → x ≡ margins_at (setup_of s) a k → x ≡ margins_at (book_in s).setup a k
  margins_read x a k e = e ∙ ap (λ (u : Setup). margins_at u a k) (sym setup_in_lem)

  pub accounts_read : (a : ℕ) → a ≤ account_count (book_in s).setup → (a ≤ (counts_in s).accounts) × (a ≤ most_accounts)
  accounts_read a l =
      (omega (arith, ap (λ (m : Counts). m.accounts) (counts_in_lem)), omega (arith, (book_is_sound s h).setup_sound.accounts_high))

  pub hours_few : periods (book_in s).setup ≤ most_hours
  hours_few = (book_is_sound s h).setup_sound.hours_high

  -- the row of a number is sound, and the table has room for it
  pub numbered_sound : (n : ℕ) → IsRow (book_in s) n → SoundRow (book_in s).setup (numbered_row (book_in s) n)
  numbered_sound n own = each_nth no_row n (book_is_sound s h).part_sound.rows_sound own.0 own.1

  pub numbered_tabled : (n : ℕ) → IsRow (book_in s) n → Tabled most_hours (numbered_row (book_in s) n)
  numbered_tabled n own = sound_tabled (book_in s).setup (book_is_sound s h).setup_sound _ (numbered_sound n own)

  module _ (n : ℕ) (e : n ≡ length (book_in s).part.rows) where
    few : n ≤ most_rows
    few = omega (arith, (book_is_sound s h).part_sound.rows_high)

    -- the rows lie side by side
    pub rows_in : (book_in s).part.rows ≡ rows_from s (present_offset + rows_offset) n
    rows_in =
        ap (λ (b : Book). b.part.rows) (decode_places most_hours book_size s)
        ∙ part_rows_lem most_hours (counts_in s).operators s present_offset n (e ∙ sym (row_count_stands s h)) few

    -- what the sums ask of them
    pub rows_summable : (present_offset + rows_offset + row_width * n ≤ length s) × (n ≤ most_rows) × Each (Tabled most_hours) (rows_from s (present_offset + rows_offset) n)
    rows_summable = (omega (arith, book_length s h, few), few, rw rows_in at rows_tabled)

-- ---- the operator of a calling account

-- the operator of an account is one of the book's
pub caller_operator : (s : List ℕ) (a : ℕ) → is_sound s ≡ true → IsAccount (book_in s) a → IsOperator (book_in s) (operator_of (book_in s).setup a)
caller_operator s zero h own = absurd (omega arith)
caller_operator s (suc i) h own = let x = each_at no_account i (values_in s h).accounts_sound (omega arith) in (x.operator_low, x.operator_high)
