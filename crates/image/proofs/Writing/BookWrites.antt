-- What a change writes: bytes of the image replaced, copied or looped over are the image of the book after it. Each write lies in
-- one section, and the others stand.
use Rattle.std.specs.Prelude.{None, Some}
use Prim.Native.Nat.{ℕ, suc, ◌+◌, ◌-◌, ◌*◌, ◌^◌, ◌≤◌, ◌<◌}
use mathlib.Core.Path.{◌≡◌, refl, ap, ◌∙◌}
use mathlib.Core.List.{List, [], ◌∷◌, ◌++◌}
use mathlib.Core.Bool.{true}
use native.Mathlib.Omega.{arith}
use lib.ListN.{length, get_or, set, drop, length-append, length-drop}
use Rattle.wire.specs.Numbers.{le}
use Rattle.wire.specs.Regions.{splice, pasted}
use Rattle.wire.specs.Parts.{zeros, flat, cells, slots, sweep}
use Rattle.wire.proofs.NumberLaws.{length-le}
use Rattle.wire.proofs.RegionLaws.{length_splice, splice_all, pasted-splice}
use Rattle.wire.proofs.ZeroLaws.{length-zeros}
use Rattle.wire.proofs.PartLaws.{write_part, write_whole, read_whole, wide_set}
use Rattle.wire.proofs.SlotLaws.{length_slots, slots_snoc, slots_set, flat_zero_cells}
use Rattle.wire.proofs.SweepLaws.{sweep_part, length_sweep}
use Rattle.units.specs.declared.Cents.{Cents}
use Rattle.rules.specs.declared.Row.{Row}
use Rattle.rules.specs.declared.Schedule.{Schedule}
use Rattle.rules.specs.Basics.{nth, Each}
use Rattle.rules.specs.Limits.{most_rows, most_schedules, most_accounts}
use Rattle.rules.specs.Books.{Part, Book, no_row, no_asks, with_rows, with_phase, with_part, with_asks}
use Rattle.rules.specs.Registration.{pending, seller, buyer, closed}
use Rattle.rules.specs.Calls.{add_rows, set_status, set_guarantee, save_part, restore_part, drop_saved, shut_gate, add_schedule, end_day, stand_ask, restored, apply}
use Rattle.rules.specs.Opening.{guarantee_width}
use Rattle.rules.proofs.Rows.RowChanges.{length-closed}
use Rattle.rules.proofs.Rows.AccountHours.{pending_inside}
use Rattle.image.specs.Layout.{row_width, schedule_width, part_size, asks_size, used_size, book_widths, phase_offset, flag_offset, schedule_count_offset, schedules_offset, present_offset, saved_offset, asks_offset, guarantees_offset, row_count_offset, row_offset, net_offset, status_offset, net_width, phase_section, flag_section, schedule_count_section, schedules_section, present_section, saved_section, asks_section}
use Rattle.image.specs.Image.{row_bytes, schedule_bytes, part_bytes, ask_bytes, saved_bytes, sections_with, sections, image}
use Rattle.image.specs.Changes.{raised, ended}
use Rattle.image.proofs.Writing.Sizes.{RowFits, Fits, length_row, length_ask, length-schedule, length_part, length_saved, wide_with, wide_book, length-image}
use Rattle.image.proofs.Writing.Nets.{length_raised, nets_end, party_fits}
use Rattle.image.proofs.Writing.Writes.{length-ended, part_row, part_withdraw, part_confirm, part_guarantee, part_close}

-- the phase replaced
write_phase : (top size : ℕ) (b : Book) → Fits b → (phase : ℕ) → splice (image top size b) phase_offset (le 1 phase) ≡ image top size (with_phase b phase)
unfolding image sections sections_with
write_phase top size b f phase =
    write_whole (book_widths top size) (sections top size b) (wide_book top size b f) phase_section phase_offset (le 1 phase) (omega arith) (length-le 1 phase) (omega arith)

-- the image with these bytes for the present part
unfoldable framed : ℕ → ℕ → Book → List ℕ → List ℕ
framed top size b x = flat (sections_with top size b x)

-- no asks are zeros
pub no_asks_zero : slots row_width most_accounts ask_bytes no_asks ≡ zeros asks_size
unfolding slots cells
no_asks_zero = flat_zero_cells row_width most_accounts

module _ (top size : ℕ) (b : Book) (f : Fits b) where
  -- ---- the present part

  framed_image : image top size b ≡ framed top size b (part_bytes top b.part)
  unfolding image sections framed
  framed_image = refl

  image_framed : (p : Part) → framed top size b (part_bytes top p) ≡ image top size (with_part b p)
  unfolding image sections sections_with framed
  image_framed p = refl

  framed_splice : (x : List ℕ) (j at : ℕ) (y : List ℕ) → length x ≡ part_size top → j + length y ≤ part_size top → at ≡ present_offset + j
      → splice (framed top size b x) at y ≡ framed top size b (splice x j y)
  unfolding framed sections_with
  framed_splice x j at y h l e =
      write_part (book_widths top size) (sections_with top size b x) (wide_with top size b x f h) present_section j at y (omega arith) l (omega arith)

  framed_sweep : (x : List ℕ) (g : List ℕ → List ℕ) (w : ℕ) → ((c : List ℕ) → length c ≡ w → length (g c) ≡ w)
      → (j n at : ℕ) → length x ≡ part_size top → j + w * n ≤ part_size top → at ≡ present_offset + j
      → sweep g w (framed top size b x) at n ≡ framed top size b (sweep g w x j n)
  unfolding framed sections_with
  framed_sweep x g w k j n at h l e =
      sweep_part g w k (book_widths top size) (sections_with top size b x) (wide_with top size b x f h) present_section j n at (omega arith) l (omega arith)

  -- ---- a pending row added: the row and the count

  pub write_row : (r : Row) (n at : ℕ) → pending r ≡ true → n ≡ length b.part.rows → n < most_rows → at ≡ present_offset + row_offset n
      → splice (splice (image top size b) at (row_bytes r)) (present_offset + row_count_offset) (le 2 (n + 1))
      ≡ image top size (apply (add_rows (r ∷ [])) b)
  unfolding apply
  write_row r n at waits e h a =
      let p : Part = b.part in
      let x : List ℕ = part_bytes top p in
      let new : List ℕ = row_bytes r in
      let lr = length_row r in
      let l : length x ≡ part_size top = length_part top p f.part_fits in
      let y : List ℕ = splice x (row_offset n) new in
      let ly : length y ≡ part_size top = length_splice x (row_offset n) new (omega arith) ∙ l in
      let one = framed_splice x (row_offset n) at new l (omega arith) a in
      let two = framed_splice y row_count_offset (present_offset + row_count_offset) (le 2 (n + 1)) ly (omega (arith, length-le 2 (n + 1))) refl in
      ap (λ (s : List ℕ). splice (splice s at new) (present_offset + row_count_offset) (le 2 (n + 1))) framed_image
      ∙ ap (λ (s : List ℕ). splice s (present_offset + row_count_offset) (le 2 (n + 1))) one
      ∙ two
      ∙ ap (framed top size b) (part_row top p f.part_fits r n (row_offset n) waits e h refl)
      ∙ image_framed _

  -- ---- a pending row confirmed: its status, then the hours of its seller, then those of its buyer

  pub write_confirmed : (number i n at low high : ℕ) (r : Row) → number ≡ suc i
      → r ≡ nth b.part.rows number no_row → pending r ≡ true → RowFits top r → r.first + n ≡ suc r.last
      → at ≡ present_offset + row_offset i + status_offset
      → low ≡ present_offset + net_offset top (seller r) r.first → high ≡ present_offset + net_offset top (buyer r) r.first
      → sweep (raised net_width r.quantity.0) net_width (sweep (raised net_width (256 ^ net_width - r.quantity.0)) net_width (splice (image top size b) at (le 1 2)) low n) high n
      ≡ image top size (apply (set_status number 2) b)
  unfolding apply
  write_confirmed number i n at low high r e er pend fit count a el eh =
      let p : Part = b.part in
      let inside = pending_inside p.rows number (rw (← er) pend) in
      let rf = f.part_fits.rows_fit in
      let l2 = length-le 1 2 in
      let x : List ℕ = part_bytes top p in
      let l : length x ≡ part_size top = length_part top p f.part_fits in
      let down : List ℕ → List ℕ = raised net_width (256 ^ net_width - r.quantity.0) in
      let up : List ℕ → List ℕ = raised net_width r.quantity.0 in
      let both = party_fits top r fit in
      let fl = fit.first_low in
      let lh = fit.last_high in
      let jl : ℕ = net_offset top (seller r) r.first in
      let jh : ℕ = net_offset top (buyer r) r.first in
      let hl = nets_end top (seller r) r.first n both.0.0 both.0.1 fl (omega arith) in
      let hh = nets_end top (buyer r) r.first n both.1.0 both.1.1 fl (omega arith) in
      let x1 : List ℕ = splice x (row_offset i + status_offset) (le 1 2) in
      let l1 : length x1 ≡ part_size top = length_splice x (row_offset i + status_offset) (le 1 2) (omega arith) ∙ l in
      let x2 : List ℕ = sweep down net_width x1 jl n in
      let l2 : length x2 ≡ part_size top = length_sweep down net_width (length_raised net_width _) n x1 jl (omega arith) ∙ l1 in
      let one = framed_splice x (row_offset i + status_offset) at (le 1 2) l (omega (arith, length-le 1 2)) (omega arith) in
      let two = framed_sweep x1 down net_width (length_raised net_width _) jl n low l1 (omega arith) el in
      let three = framed_sweep x2 up net_width (length_raised net_width _) jh n high l2 (omega arith) eh in
      ap (λ (s : List ℕ). sweep up net_width (sweep down net_width (splice s at (le 1 2)) low n) high n) framed_image
      ∙ ap (λ (s : List ℕ). sweep up net_width (sweep down net_width s low n) high n) one
      ∙ ap (λ (s : List ℕ). sweep up net_width s high n) two
      ∙ three
      ∙ ap (framed top size b) (part_confirm top p f.part_fits number i n (row_offset i + status_offset) jl jh r e er pend fit count refl refl refl)
      ∙ image_framed _

  -- ---- a pending row withdrawn: its status

  pub write_withdrawn : (number i at : ℕ) → number ≡ suc i → pending (nth b.part.rows number no_row) ≡ true
      → at ≡ present_offset + row_offset i + status_offset
      → splice (image top size b) at (le 1 3) ≡ image top size (apply (set_status number 3) b)
  unfolding apply
  write_withdrawn number i at e pend a =
      let p : Part = b.part in
      let inside = pending_inside p.rows number pend in
      let rf = f.part_fits.rows_fit in
      ap (λ (s : List ℕ). splice s at (le 1 3)) framed_image
      ∙ framed_splice (part_bytes top p) (row_offset i + status_offset) at (le 1 3) (length_part top p f.part_fits) (omega (arith, length-le 1 3)) (omega arith)
      ∙ ap (framed top size b) (part_withdraw top p f.part_fits number i (row_offset i + status_offset) e pend refl)
      ∙ image_framed _

  -- ---- a guarantee replaced

  pub write_guarantee : (o i at : ℕ) (g : Cents) → o ≡ suc i → o ≤ length b.part.guarantees
      → at ≡ present_offset + guarantees_offset + guarantee_width * i
      → splice (image top size b) at (le guarantee_width g.0) ≡ image top size (apply (set_guarantee o g) b)
  unfolding apply
  write_guarantee o i at g e h a =
      let p : Part = b.part in
      let gf = f.part_fits.guarantees_fit in
      let new : List ℕ = le guarantee_width g.0 in
      ap (λ (s : List ℕ). splice s at new) framed_image
      ∙ framed_splice (part_bytes top p) (guarantee_width * i) at new (length_part top p f.part_fits) (omega (arith, length-le guarantee_width g.0)) (omega arith)
      ∙ ap (framed top size b) (part_guarantee top p f.part_fits o i (guarantee_width * i) g e h refl)
      ∙ image_framed _

  -- ---- a part saved a batch: the present part copied over the saved one, then the flag

  pub write_saved : used_size top ≤ size
      → splice (pasted (image top size b) (saved_offset top) (drop present_offset (image top size b)) (part_size top)) flag_offset (le 1 1)
      ≡ image top size (apply save_part b)
  unfolding apply image sections sections_with saved_bytes
  write_saved g =
      let ws : List ℕ = book_widths top size in
      let ss : List (List ℕ) = sections top size b in
      let w = wide_book top size b f in
      let y : List ℕ = part_bytes top b.part in
      let ly : length y ≡ part_size top = length_part top b.part f.part_fits in
      let l : length (flat ss) ≡ size = length-image top size b f g in
      let copy = pasted-splice (flat ss) (saved_offset top) (drop present_offset (flat ss)) (part_size top) (omega (arith, length-drop present_offset (flat ss))) in
      let read = read_whole ws ss w present_section present_offset (part_size top) (omega arith) refl (omega arith) in
      let one = write_whole ws ss w saved_section (saved_offset top) y (omega arith) ly (omega arith) in
      let two = write_whole ws (set ss saved_section y) (wide_set ws ss saved_section y w ly) flag_section flag_offset (le 1 1) (omega arith) (length-le 1 1) (omega arith) in
      ap (λ (s : List ℕ). splice s flag_offset (le 1 1)) (copy ∙ ap (splice (flat ss) (saved_offset top)) read ∙ one) ∙ two

  -- ---- a part restored: the saved one copied over the present one and cleared, then the flag

  pub write_restored : (p : Part) → used_size top ≤ size → b.saved ≡ Some p
      → splice (splice (pasted (image top size b) present_offset (drop (saved_offset top) (image top size b)) (part_size top)) (saved_offset top) (zeros (part_size top))) flag_offset (le 1 0)
      ≡ image top size (apply restore_part b)
  unfolding apply image sections sections_with saved_bytes
  write_restored p g e =
      let ws : List ℕ = book_widths top size in
      let ss : List (List ℕ) = sections top size b in
      let w = wide_book top size b f in
      let y : List ℕ = saved_bytes top b.saved in
      let ly : length y ≡ part_size top = length_saved top b.saved f.saved_fits in
      let z : List ℕ = zeros (part_size top) in
      let lz : length z ≡ part_size top = length-zeros (part_size top) in
      let l : length (flat ss) ≡ size = length-image top size b f g in
      let copy = pasted-splice (flat ss) present_offset (drop (saved_offset top) (flat ss)) (part_size top) (omega (arith, length-drop (saved_offset top) (flat ss))) in
      let read = read_whole ws ss w saved_section (saved_offset top) (part_size top) (omega arith) refl (omega arith) in
      let one = write_whole ws ss w present_section present_offset y (omega arith) ly (omega arith) in
      let w1 = wide_set ws ss present_section y w ly in
      let two = write_whole ws (set ss present_section y) w1 saved_section (saved_offset top) z (omega arith) lz (omega arith) in
      let w2 = wide_set ws (set ss present_section y) saved_section z w1 lz in
      let three = write_whole ws (set (set ss present_section y) saved_section z) w2 flag_section flag_offset (le 1 0) (omega arith) (length-le 1 0) (omega arith) in
      let back : y ≡ part_bytes top (restored b.saved b.part) = rw e in
      ap (λ (s : List ℕ). splice (splice s (saved_offset top) z) flag_offset (le 1 0)) (copy ∙ ap (splice (flat ss) present_offset) read ∙ one)
      ∙ ap (λ (s : List ℕ). splice s flag_offset (le 1 0)) two
      ∙ three
      ∙ rw back

  -- ---- a saved part dropped: it is cleared, then the flag

  pub write_dropped : splice (splice (image top size b) (saved_offset top) (zeros (part_size top))) flag_offset (le 1 0) ≡ image top size (apply drop_saved b)
  unfolding apply image sections sections_with saved_bytes
  write_dropped =
      let ws : List ℕ = book_widths top size in
      let ss : List (List ℕ) = sections top size b in
      let w = wide_book top size b f in
      let z : List ℕ = zeros (part_size top) in
      let lz : length z ≡ part_size top = length-zeros (part_size top) in
      let one = write_whole ws ss w saved_section (saved_offset top) z (omega arith) lz (omega arith) in
      let two = write_whole ws (set ss saved_section z) (wide_set ws ss saved_section z w lz) flag_section flag_offset (le 1 0) (omega arith) (length-le 1 0) (omega arith) in
      ap (λ (s : List ℕ). splice s flag_offset (le 1 0)) one ∙ two

  -- ---- the gate closed: a loop over the rows, then the phase

  pub write_closed : (n at : ℕ) → n ≡ length b.part.rows → Each (λ r. r.status < 256) b.part.rows
      → at ≡ present_offset + row_offset 0
      → splice (sweep ended row_width (image top size b) at n) phase_offset (le 1 2) ≡ image top size (apply shut_gate b)
  unfolding apply
  write_closed n at e small a =
      let p : Part = b.part in
      let rf = f.part_fits.rows_fit in
      let after : Fits (with_rows b (closed p.rows)) =
      record {
        setup_fits = f.setup_fits;
        schedules_fit = f.schedules_fit;
        part_fits =
            record { guarantees_fit = f.part_fits.guarantees_fit; rows_fit = omega (arith, length-closed p.rows) };
        saved_fits = f.saved_fits;
        asks_fit = f.asks_fit;
      } in
      let loop = framed_sweep (part_bytes top p) ended row_width length-ended (row_offset 0) n at (length_part top p f.part_fits) (omega arith) a in
      ap (λ (s : List ℕ). splice (sweep ended row_width s at n) phase_offset (le 1 2)) framed_image
      ∙ ap (λ (s : List ℕ). splice s phase_offset (le 1 2)) (loop
      ∙ ap (framed top size b) (part_close top p f.part_fits n (row_offset 0) e small refl)
      ∙ image_framed (record { guarantees = p.guarantees; rows = closed p.rows }))
      ∙ write_phase top size (with_rows b (closed p.rows)) after 2

  -- ---- a schedule added: the schedule and the count

  pub write_schedule : (x : Schedule) (n at : ℕ) → n ≡ length b.schedules → n < most_schedules → at ≡ schedules_offset + schedule_width * n
      → splice (splice (image top size b) at (schedule_bytes x)) schedule_count_offset (le 2 (n + 1)) ≡ image top size (apply (add_schedule x) b)
  unfolding apply image sections sections_with
  write_schedule x n at e h a =
      let xs : List Schedule = b.schedules ++ x ∷ [] in
      let ws : List ℕ = book_widths top size in
      let ss : List (List ℕ) = sections top size b in
      let w = wide_book top size b f in
      let m : length xs ≡ n + 1 = length-append b.schedules (x ∷ []) ∙ omega arith in
      let y : List ℕ = slots schedule_width most_schedules schedule_bytes xs in
      let ly : length y ≡ schedule_width * most_schedules = length_slots schedule_width most_schedules schedule_bytes length-schedule xs (omega arith) in
      let more = slots_snoc schedule_width most_schedules schedule_bytes length-schedule b.schedules (schedule_width * n) x (omega arith) (omega arith) in
      let one = write_part ws ss w schedules_section (schedule_width * n) at (schedule_bytes x) (omega arith) (omega (arith, length-schedule x)) (omega arith) in
      let two = write_whole ws (set ss schedules_section y) (wide_set ws ss schedules_section y w ly) schedule_count_section schedule_count_offset (le 2 (n + 1)) (omega arith) (length-le 2 _) (omega arith) in
      ap (λ (s : List ℕ). splice s schedule_count_offset (le 2 (n + 1))) (one ∙ rw more) ∙ two ∙ rw m

  -- ---- the day settled: the phase

  pub write_settled : splice (image top size b) phase_offset (le 1 3) ≡ image top size (apply end_day b)
  unfolding apply
  write_settled = write_phase top size b f 3

  -- ---- an ask put in its account's place

  pub write_ask : (r : Row) (i at : ℕ) → r.proposer ≡ suc i → suc i ≤ length b.asks → at ≡ asks_offset top + row_width * i
      → splice (image top size b) at (row_bytes r) ≡ image top size (apply (stand_ask r) b)
  unfolding apply image sections sections_with
  write_ask r i at e h a =
      let ws : List ℕ = book_widths top size in
      let ss : List (List ℕ) = sections top size b in
      let w = wide_book top size b f in
      let af = f.asks_fit in
      let old : List ℕ = ask_bytes (get_or b.asks i None) in
      let lo = length_ask (get_or b.asks i None) in
      let lr = length_row r in
      let whole : splice old 0 (row_bytes r) ≡ ask_bytes (Some r) = splice_all old (row_bytes r) (omega arith) in
      let one = write_part ws ss w asks_section (row_width * i) at (row_bytes r) (omega arith) (omega arith) (omega arith) in
      let put = slots_set row_width most_accounts ask_bytes length_ask b.asks i 0 (row_width * i) (row_bytes r) None (Some r) af (omega arith) (omega arith) (omega arith) whole in
      one ∙ rw (put, e)

  -- ---- all asks cleared

  pub write_cleared : splice (image top size b) (asks_offset top) (zeros asks_size) ≡ image top size (with_asks b no_asks)
  unfolding image sections sections_with
  write_cleared =
      write_whole (book_widths top size) (sections top size b) (wide_book top size b f) asks_section (asks_offset top) (zeros asks_size) (omega arith) (length-zeros asks_size) (omega arith)
      ∙ rw no_asks_zero
