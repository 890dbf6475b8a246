-- A part of a book is what its own image would be exactly where it passes its tests: the cells past those that are used are zero, and the
-- nets are those of the rows.
use Prim.Native.Nat.{ℕ, ◌+◌, ◌-◌, ◌*◌, ◌≤◌}
use mathlib.Core.Path.{◌≡◌, sym, ap, ◌∙◌}
use mathlib.Core.List.{List, [], ◌∷◌, map}
use mathlib.Core.Bool.{true}
use native.Mathlib.Omega.{arith}
use lib.ListN.{length, get_or, take, drop, length-map, length-drop}
use lib.Seq.{length-take-le}
use Rattle.wire.specs.Numbers.{number, number_at, le, Bytes}
use Rattle.wire.specs.Regions.{zeros_from}
use Rattle.wire.specs.Parts.{zeros, flat, cut, start_of, Wide, slots, chunks}
use Rattle.wire.proofs.NumberLaws.{le_number_wide, bytes_take, bytes_drop}
use Rattle.wire.proofs.ZeroLaws.{zeros_read, zeros_tested}
use Rattle.wire.proofs.PartLaws.{cut-flat, flat-cut, cut_at, cut_rest, wide_at, wide_cut, bytes_cut, inner}
use Rattle.wire.proofs.SlotLaws.{length-chunks, slots_rest, slots_again}
use Rattle.units.specs.declared.Cents.{Cents}
use Rattle.units.specs.Units.{cents}
use Rattle.rules.specs.Basics.{entries}
use Rattle.rules.specs.Limits.{most_operators, most_accounts, most_rows}
use Rattle.rules.specs.Books.{Part}
use Rattle.rules.proofs.Basics.Tests.{Holds, ◌and◌, no_more, all_holds, holds_all}
use Rattle.rules.specs.Opening.{guarantee_width}
use Rattle.image.specs.Layout.{row_width, account_width, part_widths, part_size, row_count_offset, row_offset, nets_offset, row_count_section, nets_section}
use Rattle.image.specs.Image.{row_bytes, part_sections, part_bytes, row_in, part_of, part_in}
use Rattle.image.specs.Cells.{part_at}
use Rattle.image.proofs.Writing.Sizes.{PartFits, length_row, length_guarantee, wide_part}
use Rattle.image.proofs.Round.{row_again, guarantee_again}
use Rattle.audit.specs.Exact.{part_exact_tests, part_exact}
use Rattle.audit.proofs.NetTests.{nets_match_lem, held_nets}

-- ---- cells past those that are used

module _ {A : Type 0} (w n : ℕ) (enc : A → List ℕ) (wide : (x : A) → length (enc x) ≡ w) (dec : List ℕ → A) where
  -- where the cells that were read make the same bytes, what stands behind them is zero
  pub slots_zero : (k : ℕ) (x : List ℕ) → slots w n enc (map dec (chunks w k x)) ≡ x → drop (w * k) x ≡ zeros (w * n - w * k)
  slots_zero k x e =
      let c : length (map dec (chunks w k x)) ≡ k = length-map (chunks w k x) dec ∙ length-chunks w k x in
      ap (drop (w * k)) (sym e) ∙ rw c at (slots_rest w n enc wide (map dec (chunks w k x)))

-- ---- zeros in a part of a stretch of bytes, by their place

module _ (ws s : List ℕ) (at m k n q : ℕ) (l : n ≤ get_or ws k 0) (h : start_of ws k + get_or ws k 0 ≤ m) (f : at + m ≤ length s) (e : q ≡ at + (start_of ws k + n)) where
  stretch : drop n (get_or (cut ws (take m (drop at s))) k []) ≡ take (get_or ws k 0 - n) (drop q s)
  stretch =
      let lx : length (take m (drop at s)) ≡ m = length-take-le m (drop at s) (omega (arith, length-drop at s)) in
      cut_rest ws (take m (drop at s)) k n l (omega arith)
      ∙ inner (get_or ws k 0 - n) (start_of ws k + n) m at s (omega arith)
      ∙ rw e

  pub stretch_read : zeros_from s q (get_or ws k 0 - n) ≡ true → drop n (get_or (cut ws (take m (drop at s))) k []) ≡ zeros (get_or ws k 0 - n)
  stretch_read t = stretch ∙ zeros_read (get_or ws k 0 - n) s q (omega arith) t

  pub stretch_tested : drop n (get_or (cut ws (take m (drop at s))) k []) ≡ zeros (get_or ws k 0 - n) → zeros_from s q (get_or ws k 0 - n) ≡ true
  stretch_tested z = zeros_tested (get_or ws k 0 - n) s q (omega arith) (sym stretch ∙ z)

-- ---- a part

module _ (top ops : ℕ) (s : List ℕ) (at : ℕ) (b : Bytes s) (l : at + part_size top ≤ length s) (o : ops ≤ most_operators)
    (r : length (part_at top ops s at).rows ≤ most_rows) where
  abbrev x : List ℕ
  x = take (part_size top) (drop at s)

  abbrev ws : List ℕ
  ws = part_widths top

  abbrev c : List (List ℕ)
  c = cut ws x

  abbrev p : Part
  p = part_at top ops s at

  length_x : length x ≡ part_size top
  length_x = length-take-le (part_size top) (drop at s) (omega (arith, length-drop at s))

  bytes_c : (k : ℕ) → Bytes (get_or c k [])
  bytes_c k = bytes_cut ws k (bytes_take (part_size top) (bytes_drop at b))

  wide_c : Wide ws c
  wide_c = wide_cut ws x (omega (arith, length_x))

  count : number (get_or c 1 []) ≡ number_at s (at + row_count_offset) 2
  unfolding number_at
  count = ap number (cut_at ws x row_count_section ∙ inner 2 row_count_offset (part_size top) at s (omega arith))

  length_rows : length p.rows ≡ number_at s (at + row_count_offset) 2
  unfolding part_in part_of entries
  length_rows = length-map (chunks row_width (number (get_or c 1 [])) (get_or c 2 [])) row_in ∙ length-chunks row_width (number (get_or c 1 [])) (get_or c 2 []) ∙ count

  few : number_at s (at + row_count_offset) 2 ≤ most_rows
  few = omega (arith, length_rows)

  part_fits : PartFits p
  unfolding part_in part_of entries
  part_fits =
      let g : length p.guarantees ≡ ops = length-map (chunks guarantee_width ops (get_or c 0 [])) (λ y. cents (number y)) ∙ length-chunks guarantee_width ops (get_or c 0 []) in
      record { guarantees_fit = omega arith; rows_fit = r }

  nets_place : get_or c 3 [] ≡ take (most_accounts * account_width top) (drop (at + nets_offset) s)
  nets_place = cut_at ws x nets_section ∙ inner (most_accounts * account_width top) nets_offset (part_size top) at s (omega arith)

  rows_count : length p.rows ≡ number (get_or c 1 [])
  rows_count = length_rows ∙ sym count

  abbrev enc : Cents → List ℕ
  enc g = le guarantee_width g.0

  abbrev dec : List ℕ → Cents
  dec y = cents (number y)

  pub part_exact_lem : part_bytes top p ≡ x → part_exact top ops s at ≡ true
  unfolding part_exact part_bytes part_sections part_in part_of entries
  part_exact_lem e =
      let n : ℕ = number_at s (at + row_count_offset) 2 in
      let m = few in
      let sec : part_sections top p ≡ c = sym (cut-flat ws (part_sections top p) (wide_part top p part_fits)) ∙ ap (cut ws) e in
      let z0 = slots_zero guarantee_width most_operators enc length_guarantee dec ops (get_or c 0 []) (ap (λ (y : List (List ℕ)). get_or y 0 []) sec) in
      let z2 : drop (row_width * n) (get_or c 2 []) ≡ zeros (row_width * most_rows - row_width * n) =
      rw count at (slots_zero row_width most_rows row_bytes length_row row_in (number (get_or c 1 [])) (get_or c 2 []) (ap (λ (y : List (List ℕ)). get_or y 2 []) sec)) in
      let t0 = stretch_tested ws s at (part_size top) 0 (guarantee_width * ops) (at + guarantee_width * ops) (omega arith) (omega arith) l (omega arith) z0 in
      let t2 = stretch_tested ws s at (part_size top) 2 (row_width * n) (at + row_offset n) (omega arith) (omega arith) l (omega arith) z2 in
      let t3 = nets_match_lem top p.rows s at b (omega arith) (ap (λ (y : List (List ℕ)). get_or y 3 []) sec ∙ nets_place) in
      holds_all (part_exact_tests top ops s at) (t0 and t2 and t3 and no_more)

  exact_by : Holds (part_exact_tests top ops s at) → part_bytes top p ≡ x
  unfolding part_bytes part_sections part_in part_of entries cut
  exact_by (guarantees and rows and nets and _) =
      let n : ℕ = number_at s (at + row_count_offset) 2 in
      let m = few in
      let z0 = stretch_read ws s at (part_size top) 0 (guarantee_width * ops) (at + guarantee_width * ops) (omega arith) (omega arith) l (omega arith) guarantees in
      let z2 = stretch_read ws s at (part_size top) 2 (row_width * n) (at + row_offset n) (omega arith) (omega arith) l (omega arith) rows in
      let a0 = slots_again guarantee_width enc dec guarantee_again most_operators ops (bytes_c 0) (wide_at ws c 0 wide_c) o z0 in
      let a1 : le 2 (length p.rows) ≡ get_or c 1 [] = ap (le 2) rows_count ∙ le_number_wide (bytes_c 1) 2 (wide_at ws c 1 wide_c) in
      let a2 : slots row_width most_rows row_bytes p.rows ≡ get_or c 2 [] =
      ap (λ (k : ℕ). slots row_width most_rows row_bytes (map row_in (chunks row_width k (get_or c 2 [])))) count
      ∙ slots_again row_width row_bytes row_in row_again most_rows n (bytes_c 2) (wide_at ws c 2 wide_c) m z2 in
      let a3 = held_nets top p.rows s at b (omega arith) nets ∙ sym nets_place in
      side_by_side a0 a1 a2 a3 ∙ flat-cut ws x (length_x ∙ omega arith)
    where
      side_by_side : {c c' e e' o o' a a' : List ℕ} → c ≡ c' → e ≡ e' → o ≡ o' → a ≡ a' → flat (c ∷ e ∷ o ∷ a ∷ []) ≡ flat (c' ∷ e' ∷ o' ∷ a' ∷ [])
      side_by_side hc he ho ha = rw (hc, he, ho, ha)

  pub exact_part : part_exact top ops s at ≡ true → part_bytes top p ≡ x
  unfolding part_exact
  exact_part t = exact_by (all_holds (part_exact_tests top ops s at) t)
