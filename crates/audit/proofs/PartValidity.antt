-- A part stands exactly where the tests that code makes hold: its guarantees and rows are read at their places in the whole bytes, and
-- what follows of the rows is read off the table of their sums.
use Prim.Native.Nat.{ℕ, ◌+◌, ◌*◌, ◌≤◌, ◌<◌}
use mathlib.Core.Path.{◌≡◌, sym, ap, ◌∙◌}
use mathlib.Core.List.{List, [], ◌∷◌, map}
use mathlib.Core.Bool.{Bool, true, false, ◌&&◌}
use native.Mathlib.Omega.{arith}
use lib.ListN.{length, get_or, take, drop, length-map}
use lib.Dec.{leb}
use borrow.Author.Tests.{eq-eqb, le-leb, leb-true, lt-leb}
use Rattle.wire.specs.Numbers.{number, number_at}
use Rattle.wire.specs.Parts.{cut, chunks}
use Rattle.wire.proofs.PartLaws.{cut_at, inner}
use Rattle.wire.proofs.SlotLaws.{length-chunks, chunks_front}
use Rattle.units.specs.declared.Cents.{Cents}
use Rattle.units.specs.Units.{cents}
use Rattle.rules.specs.declared.Counts.{Counts}
use Rattle.rules.specs.declared.Row.{Row}
use Rattle.rules.specs.Basics.{every, all_of, up_to, Each, entries}
use Rattle.rules.specs.Limits.{most_accounts, most_guarantee, most_operators, most_rows}
use Rattle.rules.specs.Books.{Setup, Part, operator_count}
use Rattle.rules.specs.Opening.{counts_in, setup_of, guarantee_width}
use Rattle.rules.proofs.Basics.Tests.{test_same, and_both, Holds, ◌and◌, no_more, all_holds, holds_all, holds_at, chained_all, chain_holds, holds_chain}
use Rattle.rules.proofs.Basics.Searches.{every_each, each_map}
use Rattle.rules.proofs.Setups.SetupEntries.{counts_of_setup}
use Rattle.image.specs.Layout.{row_width, part_widths, part_size, rows_offset, nets_offset, net_offset, row_count_offset, net_width, guarantees_section, row_count_section, rows_section}
use Rattle.image.specs.Image.{row_in, part_of, part_in}
use Rattle.image.specs.Valid.{row_ok, no_twins, margins_kept, operators_covered, part_tests, part_ok}
use Rattle.image.specs.Tables.{place_of, InTable, Tabled}
use Rattle.image.specs.Cells.{rows_from, guarantees_from, part_at}
use Rattle.image.proofs.Sound.Soundness.{SoundRow, sound_row, every_up_to, up_to_every}
use Rattle.image.proofs.Sound.SoundBooks.{sound_part}
use Rattle.tables.specs.Sums.{SumsOf, net_stored, nets_stored}
use Rattle.audit.specs.Exact.{nets_match, part_exact}
use Rattle.audit.specs.Validity.{SetupKnown, row_count, rows_of, part_with, guarantees_valid_tests, guarantees_valid, rows_valid_tests, rows_valid, sums_valid, part_valid}
use Rattle.audit.proofs.CoverLaws.{length-guarantees_from}
use Rattle.audit.proofs.ValidityLaws.{fails_with}

-- ---- the nets by the table of sums

every_alike : (p q : ℕ → Bool) (n : ℕ) → ((k : ℕ) → 1 ≤ k → k ≤ n → p k ≡ q k) → every p (up_to n) ≡ every q (up_to n)
every_alike p q n f =
    test_same _ _
    (λ t. up_to_every q n (λ k l h. sym (f k l h) ∙ every_up_to p n t k l h))
    (λ t. up_to_every p n (λ k l h. f k l h ∙ every_up_to q n t k l h))

pub nets_by_sums : (top : ℕ) (s : List ℕ) (at : ℕ) (rows : List Row) (table : List ℕ) → SumsOf top rows table → nets_stored top s (at + nets_offset) table ≡ nets_match top rows s at
unfolding nets_stored nets_match net_stored
nets_by_sums top s at rows table sums =
    every_alike _ _ most_accounts (λ a al ah. every_alike _ _ top (λ h hl hh.
    let i : InTable top a h = record { account_low = al; account_high = ah; hour_low = hl; hour_high = hh } in
    let place : at + nets_offset + net_width * place_of top a h ≡ at + net_offset top a h = omega arith in
    rw (place, sums.bought_at a h i, sums.sold_at a h i)))

-- what follows of the rows, each test by the table
pub sums_valid_lem : (top : ℕ) (s : List ℕ) (at : ℕ) (rows : List Row) (table : List ℕ) {nets margins includes_hour : Bool} → SumsOf top rows table
    → nets ≡ nets_stored top s (at + nets_offset) table → margins ≡ margins_kept (setup_of s) rows → includes_hour ≡ operators_covered (setup_of s) (part_with s at rows)
    → ((nets && margins) && includes_hour) ≡ sums_valid top s at rows
unfolding sums_valid
sums_valid_lem top s at rows table {nets} {margins} {includes_hour} sums n m g =
    chained_all nets (margins ∷ includes_hour ∷ []) ∙ rw (n, m, g, nets_by_sums top s at rows table sums)

-- ---- a part at its places

same_part : {g g' : List Cents} {r r' : List Row} → g ≡ g' → r ≡ r' → ◌≡◌ {A = Part} (record { guarantees = g; rows = r }) (record { guarantees = g'; rows = r' })
same_part g r = rw (g, r)

module _ (top : ℕ) (s : List ℕ) (at operators : ℕ) where
  abbrev ws : List ℕ
  ws = part_widths top

  abbrev x : List ℕ
  x = take (part_size top) (drop at s)

  count : number (get_or (cut ws x) row_count_section []) ≡ row_count s at
  unfolding number_at
  count = ap number (cut_at ws x row_count_section ∙ inner 2 row_count_offset (part_size top) at s (omega arith))

  pub length_part_rows : length (part_at top operators s at).rows ≡ row_count s at
  unfolding part_in part_of entries
  length_part_rows =
      length-map (chunks row_width (number (get_or (cut ws x) row_count_section [])) (get_or (cut ws x) rows_section [])) row_in
      ∙ length-chunks row_width (number (get_or (cut ws x) row_count_section [])) (get_or (cut ws x) rows_section [])
      ∙ count

  pub part_places : operators ≤ most_operators → row_count s at ≤ most_rows
      → part_at top operators s at ≡ record { guarantees = guarantees_from s at operators; rows = rows_of s at }
  unfolding part_in part_of entries guarantees_from rows_from
  part_places o n =
      let z : at + 0 ≡ at = omega arith in
      let c0 : get_or (cut ws x) guarantees_section [] ≡ take row_count_offset (drop at s) =
      cut_at ws x guarantees_section ∙ inner row_count_offset 0 (part_size top) at s (omega arith) ∙ ap (λ (k : ℕ). take row_count_offset (drop k s)) z in
      let c2 : get_or (cut ws x) rows_section [] ≡ take (row_width * most_rows) (drop (at + rows_offset) s) = cut_at ws x rows_section ∙ inner (row_width * most_rows) rows_offset (part_size top) at s (omega arith) in
      same_part
      (ap (λ (y : List ℕ). map (λ g. cents (number g)) (chunks guarantee_width operators y)) c0
      ∙ ap (map (λ g. cents (number g))) (chunks_front guarantee_width operators row_count_offset (drop at s) (omega arith)))
      (ap (λ (k : ℕ). map row_in (chunks row_width k (get_or (cut ws x) rows_section []))) count
      ∙ ap (λ (y : List ℕ). map row_in (chunks row_width (row_count s at) y)) c2
      ∙ ap (map row_in) (chunks_front row_width (row_count s at) (row_width * most_rows) (drop (at + rows_offset) s) (omega arith)))

-- ---- the tests in the order in which code makes them

module _ (u : Setup) (p : Part) (behind-guarantees behind-rows nets : Bool) where
  abbrev of_places : List Bool
  of_places = behind-guarantees ∷ behind-rows ∷ nets ∷ []

  abbrev of_guarantees : List Bool
  of_guarantees = every (λ g. leb g.0 most_guarantee) p.guarantees ∷ behind-guarantees ∷ []

  abbrev of_rows : List Bool
  of_rows = every (row_ok u) p.rows ∷ behind-rows ∷ no_twins p.rows ∷ []

  abbrev of_sums : List Bool
  of_sums = nets ∷ margins_kept u p.rows ∷ operators_covered u p ∷ []

  to_order : Holds (part_tests u p) → Holds of_places → (all_of of_guarantees && all_of of_rows && all_of of_sums) ≡ true
  to_order (all and guarantees and few and rows and twins and margins and includes_hour and _) (z1 and z2 and held and _) =
      holds_chain (
      holds_all of_guarantees (guarantees and z1 and no_more)
      and holds_all of_rows (rows and z2 and twins and no_more)
      and holds_all of_sums (held and margins and includes_hour and no_more)
      and no_more
      )

  from_order : length p.guarantees ≡ operator_count u → length p.rows ≤ most_rows → Holds of_guarantees → Holds of_rows → Holds of_sums
      → (all_of (part_tests u p) && all_of of_places) ≡ true
  from_order all few (guarantees and z1 and _) (rows and z2 and twins and _) (held and margins and includes_hour and _) =
      holds_chain (
      holds_all (part_tests u p) (eq-eqb _ _ all and guarantees and le-leb _ _ few and rows and twins and margins and includes_hour and no_more)
      and holds_all of_places (z1 and z2 and held and no_more)
      and no_more
      )

  in_order : length p.guarantees ≡ operator_count u → length p.rows ≤ most_rows
      → (part_ok u p && all_of of_places) ≡ (all_of of_guarantees && all_of of_rows && all_of of_sums)
  unfolding part_ok
  in_order all few = test_same _ _ valid_first places_first
    where
      valid_first : (part_ok u p && all_of of_places) ≡ true → (all_of of_guarantees && all_of of_rows && all_of of_sums) ≡ true
      valid_first t =
          let (v, z) = (and_both (all_of (part_tests u p)) (all_of of_places)).0 t in
          to_order (all_holds (part_tests u p) v) (all_holds of_places z)

      by_sections : Holds (all_of of_guarantees ∷ all_of of_rows ∷ all_of of_sums ∷ []) → (part_ok u p && all_of of_places) ≡ true
      by_sections (g and r and m and _) = from_order all few (all_holds of_guarantees g) (all_holds of_rows r) (all_holds of_sums m)

      places_first : (all_of of_guarantees && all_of of_rows && all_of of_sums) ≡ true → (part_ok u p && all_of of_places) ≡ true
      places_first t = by_sections (chain_holds (all_of of_guarantees) (all_of of_rows ∷ all_of of_sums ∷ []) t)

-- the number of rows that a part that stands says is in range
pub few_rows : (top : ℕ) (s : List ℕ) (at : ℕ) → part_valid top s at ≡ true → row_count s at ≤ most_rows
unfolding part_valid
few_rows top s at t =
    let p : Part = part_at top (counts_in s).operators s at in
    let w = (and_both (part_ok (setup_of s) p) (part_exact top (counts_in s).operators s at)).0 t in
    omega (arith, (sound_part (setup_of s) p w.0).rows_high, length_part_rows top s at (counts_in s).operators)

pub too_many_rows : (top : ℕ) (s : List ℕ) (at : ℕ) → most_rows < row_count s at → false ≡ part_valid top s at
too_many_rows top s at h = sym (fails_with (part_valid top s at) (λ t. le-leb _ _ (few_rows top s at t)) (lt-leb (row_count s at) most_rows h))

module _ (top : ℕ) (s : List ℕ) (at n operators : ℕ) (k : SetupKnown top s) (en : n ≡ row_count s at) (eo : operators ≡ (counts_in s).operators) (few : n ≤ most_rows) where
  abbrev rows : List Row
  rows = rows_from s (at + rows_offset) n

  part_in_order : part_valid top s at ≡ (guarantees_valid s at operators && rows_valid s at n && sums_valid top s at rows)
  unfolding part_valid part_exact guarantees_valid rows_valid sums_valid
  part_in_order =
      let ops : operator_count (setup_of s) ≡ (counts_in s).operators = ap (λ (c : Counts). c.operators) (counts_of_setup s) in
      let lg = length-guarantees_from s at (counts_in s).operators ∙ sym ops in
      let lr : length (rows_of s at) ≤ most_rows =
      omega (arith, ap (λ (p : Part). length p.rows) (part_places top s at operators (omega (arith, k.operators_high)) (omega arith)), length_part_rows top s at operators) in
      let place : at + rows_offset + row_width * row_count s at ≡ at + (rows_offset + row_width * row_count s at) = omega arith in
      rw (eo, en, part_places top s at (counts_in s).operators (omega (arith, k.operators_high)) (omega arith), place)
      (in_order (setup_of s) (part_with s at (rows_of s at)) _ _ _ lg lr)

  pub guarantees_fail : guarantees_valid s at operators ≡ false → false ≡ part_valid top s at
  guarantees_fail g = sym (part_in_order ∙ rw g)

  pub rows_fail : guarantees_valid s at operators ≡ true → rows_valid s at n ≡ false → false ≡ part_valid top s at
  rows_fail g r = sym (part_in_order ∙ rw (g, r))

  pub sums_decide : guarantees_valid s at operators ≡ true → rows_valid s at n ≡ true → sums_valid top s at rows ≡ part_valid top s at
  sums_decide g r = sym (part_in_order ∙ rw (g, r))

-- ---- what the sums ask of rows and guarantees that stand

pub rows_tabled : (top : ℕ) (s : List ℕ) (at n : ℕ) → SetupKnown top s → rows_valid s at n ≡ true → Each (Tabled top) (rows_from s (at + rows_offset) n)
unfolding rows_valid
rows_tabled top s at n k t =
    let c = counts_of_setup s in
    let accounts = ap (λ (c : Counts). c.accounts) c in
    let hours = ap (λ (c : Counts). c.hours) c in
    each_map (λ r e.
    let q : SoundRow (setup_of s) r = sound_row (setup_of s) r e in
    record {
      proposer_low = q.proposer_low;
      proposer_high = omega (arith, q.proposer_high, accounts, k.tabled.accounts_high);
      counterparty_low = q.counterparty_low;
      counterparty_high = omega (arith, q.counterparty_high, accounts, k.tabled.accounts_high);
      first_low = q.first_low;
      in_order = q.in_order;
      last_high = omega (arith, q.last_high, hours, k.tabled.hours_high);
      quantity_high = q.quantity_high;
    }) (every_each (row_ok (setup_of s)) (rows_from s (at + rows_offset) n) (holds_at 0 (rows_valid_tests s at n) t))

pub guarantees_small : (s : List ℕ) (at operators n : ℕ) → operators ≡ n → guarantees_valid s at operators ≡ true
    → Each (λ g. g.0 ≤ most_guarantee) (guarantees_from s at n)
unfolding guarantees_valid
guarantees_small s at operators n e t =
    let small = holds_at 0 (guarantees_valid_tests s at operators) t in
    rw e at (each_map (λ g h. leb-true g.0 most_guarantee h) (every_each _ (guarantees_from s at operators) small))
