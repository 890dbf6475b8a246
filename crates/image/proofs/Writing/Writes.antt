-- What is written in a part: a row, a status or a guarantee replaced in its own section, and loops inside the rows or the nets; the
-- other sections stand.
use Rattle.std.specs.Prelude.{if◌then◌else◌}
use Prim.Native.Nat.{ℕ, suc, ◌+◌, ◌-◌, ◌*◌, ◌^◌, ◌≤◌, ◌<◌}
use mathlib.Core.Path.{◌≡◌, refl, sym, ap, ◌∙◌}
use mathlib.Core.List.{List, [], ◌∷◌, ◌++◌, map}
use mathlib.Core.Bool.{Bool, true, false}
use native.Mathlib.Omega.{arith}
use lib.ListN.{length, get_or, set, length-append, length-map, length-set}
use lib.Dec.{eqb}
use Rattle.wire.specs.Numbers.{le}
use Rattle.wire.specs.Regions.{splice}
use Rattle.wire.specs.Parts.{flat, Wide, pack, pieces, slots, sweep}
use Rattle.wire.proofs.NumberLaws.{length-le}
use Rattle.wire.proofs.RegionLaws.{splice_all, length_splice}
use Rattle.wire.proofs.PartLaws.{write_part, write_whole, wide_set}
use Rattle.wire.proofs.PackLaws.{write-number}
use Rattle.wire.proofs.SlotLaws.{length_slots, slots_set, slots_snoc}
use Rattle.wire.proofs.SweepLaws.{sweep_part, sweep_slots, length_sweep}
use Rattle.units.specs.declared.Cents.{Cents}
use Rattle.units.specs.Units.{cents}
use Rattle.rules.specs.declared.Row.{Row}
use Rattle.rules.specs.Basics.{nth, put, Each, nil, cons}
use Rattle.rules.specs.Limits.{most_operators, most_accounts, most_rows}
use Rattle.rules.specs.Books.{Part, no_row}
use Rattle.rules.specs.Registration.{pending, seller, buyer, with_status, mark, closed}
use Rattle.rules.proofs.Rows.RowChanges.{length-mark}
use Rattle.rules.proofs.Rows.AccountHours.{pending_inside, moved_added, moved_withdraw, moved_close}
use Rattle.image.specs.Layout.{row_widths, row_width, account_width, part_widths, row_count_offset, row_offset, net_offset, status_offset, net_width, guarantees_section, row_count_section, rows_section, nets_section}
use Rattle.rules.specs.Opening.{guarantee_width}
use Rattle.image.specs.Image.{row_values, row_bytes, nets_bytes, part_sections, part_bytes}
use Rattle.image.specs.Changes.{raised, ended}
use Rattle.image.proofs.Writing.Sizes.{◌then◌, RowFits, PartFits, length_row, length_guarantee, length_nets, wide_part}
use Rattle.image.proofs.Writing.Nets.{length_raised, nets_kept, nets_confirm, nets_end, party_fits}

-- ---- a row

pub row_status : (r : Row) (status : ℕ) → splice (row_bytes r) status_offset (le 1 status) ≡ row_bytes (with_status status r)
unfolding row_bytes
row_status r status = write-number row_widths (row_values r) 7 status_offset status refl (omega arith) (omega arith)

pub status_read : (r : Row) → r.status < 256 → get_or (row_bytes r) status_offset 0 ≡ r.status
unfolding row_bytes pack pieces flat le
status_read r h = omega arith

pub length-ended : (c : List ℕ) → length c ≡ row_width → length (ended c) ≡ row_width
unfolding ended
length-ended c h = go (eqb (get_or c status_offset 0) 1)
  where
    go : (t : Bool) → length (if t then splice c status_offset (le 1 3) else c) ≡ row_width
    go true = length_splice c status_offset (le 1 3) (omega (arith, length-le 1 3)) ∙ h
    go false = h

pub row_ended : (r : Row) → r.status < 256 → ended (row_bytes r) ≡ row_bytes (if pending r then with_status 3 r else r)
unfolding ended
row_ended r h = rw (status_read r h) (go (pending r))
  where
    go : (t : Bool) → (if t then splice (row_bytes r) status_offset (le 1 3) else row_bytes r) ≡ row_bytes (if t then with_status 3 r else r)
    go true = row_status r 3
    go false = refl

-- ---- a part with other rows

-- its sections, with these bytes for the nets
part_over : Part → List Row → List ℕ → List (List ℕ)
part_over p rows nets =
    slots guarantee_width most_operators (λ g. le guarantee_width g.0) p.guarantees
    ∷ le 2 (length rows)
    ∷ slots row_width most_rows row_bytes rows
    ∷ nets
    ∷ []

module _ (top : ℕ) (p : Part) (f : PartFits p) where
  wide_over : (rows : List Row) (nets : List ℕ) → length rows ≤ most_rows → length nets ≡ most_accounts * account_width top
      → Wide (part_widths top) (part_over p rows nets)
  unfolding part_over
  wide_over rows nets h l =
      length_slots guarantee_width most_operators (λ g. le guarantee_width g.0) length_guarantee p.guarantees f.guarantees_fit
      then length-le 2 _
      then length_slots row_width most_rows row_bytes length_row rows h
      then l
      then tt

  over_part : (rows : List Row) → flat (part_over p rows (nets_bytes top rows)) ≡ part_bytes top (record { guarantees = p.guarantees; rows = rows })
  unfolding part_bytes part_sections part_over
  over_part rows = refl

  -- a pending row more, and the count
  pub part_row : (r : Row) (n at : ℕ) → pending r ≡ true → n ≡ length p.rows → n < most_rows → at ≡ row_offset n
      → splice (splice (part_bytes top p) at (row_bytes r)) row_count_offset (le 2 (n + 1))
      ≡ part_bytes top (record { guarantees = p.guarantees; rows = p.rows ++ r ∷ [] })
  unfolding part_bytes part_sections
  part_row r n at waits e h a =
      let rows' : List Row = p.rows ++ r ∷ [] in
      let ws : List ℕ = part_widths top in
      let ss : List (List ℕ) = part_sections top p in
      let w = wide_part top p f in
      let m : length rows' ≡ n + 1 = length-append p.rows (r ∷ []) ∙ omega arith in
      let more : splice (slots row_width most_rows row_bytes p.rows) (row_width * n) (row_bytes r) ≡ slots row_width most_rows row_bytes rows' =
      slots_snoc row_width most_rows row_bytes length_row p.rows (row_width * n) r (omega arith) (omega arith) in
      let nets : nets_bytes top rows' ≡ nets_bytes top p.rows =
      nets_kept top p.rows rows' (λ x k. moved_added buyer x k p.rows (cons waits nil)) (λ x k. moved_added seller x k p.rows (cons waits nil)) in
      let y : List ℕ = slots row_width most_rows row_bytes rows' in
      let ly : length y ≡ row_width * most_rows = length_slots row_width most_rows row_bytes length_row rows' (omega arith) in
      let one = write_part ws ss w rows_section (row_width * n) at (row_bytes r) (omega arith) (omega (arith, length_row r)) (omega arith) in
      let two = write_whole ws (set ss rows_section y) (wide_set ws ss rows_section y w ly) row_count_section row_count_offset (le 2 (n + 1)) (omega arith) (length-le 2 _) (omega arith) in
      ap (λ (s : List ℕ). splice s row_count_offset (le 2 (n + 1))) (one ∙ rw more) ∙ two ∙ rw (m, nets)

  -- a row gets a status; the nets stand
  part_mark : (i status at : ℕ) → i < length p.rows → at ≡ row_offset i + status_offset
      → splice (part_bytes top p) at (le 1 status) ≡ flat (part_over p (mark (suc i) status p.rows) (nets_bytes top p.rows))
  unfolding part_bytes part_sections part_over mark
  part_mark i status at h a =
      let rf = f.rows_fit in
      let l = length-le 1 status in
      let r : Row = get_or p.rows i no_row in
      let more = slots_set row_width most_rows row_bytes length_row p.rows i status_offset (row_width * i + status_offset) (le 1 status) no_row (with_status status r) rf h (omega arith) refl (row_status r status) in
      write_part (part_widths top) (part_sections top p) (wide_part top p f) rows_section (row_width * i + status_offset) at (le 1 status) (omega arith) (omega arith) (omega arith)
      ∙ rw (more, length-set p.rows i (with_status status r))

  -- a pending row withdrawn
  pub part_withdraw : (number i at : ℕ) → number ≡ suc i → pending (nth p.rows number no_row) ≡ true → at ≡ row_offset i + status_offset
      → splice (part_bytes top p) at (le 1 3)
      ≡ part_bytes top (record { guarantees = p.guarantees; rows = mark number 3 p.rows })
  part_withdraw number i at e pend a =
      let inside = pending_inside p.rows number pend in
      let nets : nets_bytes top (mark number 3 p.rows) ≡ nets_bytes top p.rows =
      nets_kept top p.rows (mark number 3 p.rows) (λ x k. moved_withdraw buyer x k p.rows number pend) (λ x k. moved_withdraw seller x k p.rows number pend) in
      part_mark i 3 at (omega arith) a ∙ rw (← e, ← nets) (over_part (mark number 3 p.rows))

  -- a pending row confirmed: its status, then the hours of its seller, then those of its buyer
  pub part_confirm : (number i n at low high : ℕ) (r : Row) → number ≡ suc i → r ≡ nth p.rows number no_row → pending r ≡ true
      → RowFits top r → r.first + n ≡ suc r.last
      → at ≡ row_offset i + status_offset → low ≡ net_offset top (seller r) r.first → high ≡ net_offset top (buyer r) r.first
      → sweep (raised net_width r.quantity.0) net_width (sweep (raised net_width (256 ^ net_width - r.quantity.0)) net_width (splice (part_bytes top p) at (le 1 2)) low n) high n
      ≡ part_bytes top (record { guarantees = p.guarantees; rows = mark number 2 p.rows })
  unfolding part_over
  part_confirm number i n at low high r e er pend fit count a el eh =
      let rows' : List Row = mark number 2 p.rows in
      let inside = pending_inside p.rows number (rw (← er) pend) in
      let ws : List ℕ = part_widths top in
      let down : List ℕ → List ℕ = raised net_width (256 ^ net_width - r.quantity.0) in
      let up : List ℕ → List ℕ = raised net_width r.quantity.0 in
      let both = party_fits top r fit in
      let fl = fit.first_low in
      let lh = fit.last_high in
      let jl : ℕ = account_width top * (seller r - 1) + net_width * (r.first - 1) in
      let jh : ℕ = account_width top * (buyer r - 1) + net_width * (r.first - 1) in
      let hl : jl + net_width * n ≤ most_accounts * account_width top = nets_end top (seller r) r.first n both.0.0 both.0.1 fl (omega arith) in
      let hh : jh + net_width * n ≤ most_accounts * account_width top = nets_end top (buyer r) r.first n both.1.0 both.1.1 fl (omega arith) in
      let ns : List ℕ = nets_bytes top p.rows in
      let ls : length ns ≡ most_accounts * account_width top = length_nets top p.rows in
      let ns' : List ℕ = sweep down net_width ns jl n in
      let ls' : length ns' ≡ most_accounts * account_width top = length_sweep down net_width (length_raised net_width _) n ns jl (omega arith) ∙ ls in
      let lr : length rows' ≤ most_rows = omega (arith, length-mark number 2 p.rows, f.rows_fit) in
      let marked : splice (part_bytes top p) at (le 1 2) ≡ flat (part_over p rows' ns) = part_mark i 2 at (omega arith) a ∙ rw (← e) in
      let one : sweep down net_width (flat (part_over p rows' ns)) low n ≡ flat (part_over p rows' ns') =
      sweep_part down net_width (length_raised net_width _) ws (part_over p rows' ns) (wide_over rows' ns lr ls) nets_section jl n low (omega arith) hl (omega arith) in
      let two : sweep up net_width (flat (part_over p rows' ns')) high n ≡ flat (part_over p rows' (sweep up net_width ns' jh n)) =
      sweep_part up net_width (length_raised net_width _) ws (part_over p rows' ns') (wide_over rows' ns' lr ls') nets_section jh n high (omega arith) hh (omega arith) in
      ap (λ (s : List ℕ). sweep up net_width (sweep down net_width s low n) high n) marked
      ∙ ap (λ (s : List ℕ). sweep up net_width s high n) one
      ∙ two
      ∙ ap (λ (s : List ℕ). flat (part_over p rows' s)) (nets_confirm top p.rows number n jl jh r er pend fit count refl refl)
      ∙ over_part rows'

  -- a guarantee replaced
  pub part_guarantee : (operator i at : ℕ) (g : Cents) → operator ≡ suc i → operator ≤ length p.guarantees → at ≡ guarantee_width * i
      → splice (part_bytes top p) at (le guarantee_width g.0)
      ≡ part_bytes top (record { guarantees = put p.guarantees operator g; rows = p.rows })
  unfolding part_bytes part_sections
  part_guarantee operator i at g e h a =
      let gf = f.guarantees_fit in
      let l = length-le guarantee_width g.0 in
      let old : Cents = get_or p.guarantees i (cents 0) in
      let more = slots_set guarantee_width most_operators (λ x. le guarantee_width x.0) length_guarantee p.guarantees i 0 (guarantee_width * i) (le guarantee_width g.0) (cents 0) g gf (omega arith) (omega arith) (omega arith)
      (splice_all (le guarantee_width old.0) (le guarantee_width g.0) (l ∙ sym (length-le guarantee_width old.0))) in
      write_part (part_widths top) (part_sections top p) (wide_part top p f) guarantees_section (guarantee_width * i) at (le guarantee_width g.0) (omega arith) (omega arith) (omega arith)
      ∙ rw (e, more)

  -- a loop over the rows: the pending ones withdrawn
  pub part_close : (n at : ℕ) → n ≡ length p.rows → Each (λ r. r.status < 256) p.rows → at ≡ row_offset 0
      → sweep ended row_width (part_bytes top p) at n
      ≡ part_bytes top (record { guarantees = p.guarantees; rows = closed p.rows })
  unfolding part_bytes part_sections closed
  part_close n at e small a =
      let rf = f.rows_fit in
      let close : Row → Row = λ r. if pending r then with_status 3 r else r in
      let nets : nets_bytes top (map close p.rows) ≡ nets_bytes top p.rows =
      nets_kept top p.rows (map close p.rows) (λ x k. moved_close buyer x k p.rows) (λ x k. moved_close seller x k p.rows) in
      let loop = sweep_slots ended row_width length-ended most_rows row_bytes length_row close p.rows rf (same_each _ _ (λ r s. row_ended r s) small) in
      sweep_part ended row_width length-ended (part_widths top) (part_sections top p) (wide_part top p f) rows_section 0 n at (omega arith) (omega arith) (omega arith)
      ∙ rw (e, loop, nets, length-map p.rows close)
    where
      same_each : {P : Row → Type 0} (g g' : Row → List ℕ) {xs : List Row} → ((x : Row) → P x → g x ≡ g' x) → Each P xs → map g xs ≡ map g' xs
      same_each g g' h nil = refl
      same_each g g' h (cons {x = x} s e) = rw (h x s, same_each g g' h e)
