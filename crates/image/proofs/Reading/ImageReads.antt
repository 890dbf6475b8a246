-- What stands at a place of an image: each place lies in one section, and there in one cell.
use Rattle.std.specs.Prelude.{Option, None, Some}
use Prim.Native.Nat.{ℕ, zero, suc, ◌+◌, ◌-◌, ◌*◌, ◌%◌, ◌^◌, ◌≤◌, ◌<◌}
use mathlib.Core.Path.{◌≡◌, refl, ap, ◌∙◌}
use mathlib.Core.List.{List, [], ◌∷◌, map}
use native.Mathlib.Omega.{arith}
use lib.ListN.{length, get_or, take, drop, length-map}
use lib.Seq.{take_all}
use Rattle.wire.specs.Numbers.{number, number_at, le, signed}
use Rattle.wire.specs.Parts.{start_of, Small, padded}
use Rattle.wire.proofs.NumberLaws.{length-le, length-signed, number-le, number_le_rest, signed_sub}
use Rattle.wire.proofs.PartLaws.{read_part, read_whole, number_part}
use Rattle.wire.proofs.PackLaws.{number_in_pack}
use Rattle.wire.proofs.SlotLaws.{uniform_map, read_cell, slots_get}
use Rattle.units.specs.Units.{cents}
use Rattle.rules.specs.declared.Row.{Row}
use Rattle.rules.specs.declared.Schedule.{Schedule}
use Rattle.rules.specs.Basics.{up_to, joined}
use Rattle.rules.specs.Limits.{most_operators, most_accounts, most_rows, most_schedules}
use Rattle.rules.specs.Books.{Part, Book, no_row, ask_at}
use Rattle.rules.specs.Registration.{bought, sold, net_of, figure}
use Rattle.rules.specs.Opening.{guarantee_width}
use Rattle.rules.proofs.Basics.Searches.{counting-length}
use Rattle.image.specs.Layout.{setup_room, row_widths, row_width, schedule_widths, schedule_width, account_width, part_widths, part_size, book_widths, phase_offset, flag_offset, schedule_count_offset, schedules_offset, present_offset, saved_offset, guarantees_offset, row_count_offset, row_offset, net_offset, net_width, ask_offset, setup_section, asks_section}
use Rattle.image.specs.Image.{row_values, row_bytes, schedule_values, schedule_bytes, account_nets, nets_bytes, part_sections, part_bytes, ask_bytes, flag, saved_bytes, stored_setup, sections_with, sections, image}
use Rattle.image.proofs.Writing.Sizes.{PartFits, Fits, length_row, length_ask, length-schedule, length_guarantee, length-account, wide_part, wide_book}
use Rattle.image.proofs.Writing.Nets.{up_to_at, nets_end}

-- a number alone in its bytes
number_alone : (w v : ℕ) → v < 256 ^ w → number_at (le w v) 0 w ≡ v
unfolding number_at
number_alone w v h = ap number (take_all w (le w v) (omega (arith, length-le w v))) ∙ number-le w v h

-- part k ends inside the whole
part_end : (ws : List ℕ) (k : ℕ) → start_of ws k + get_or ws k 0 ≤ start_of ws (length ws)
part_end [] zero = omega arith
part_end [] (suc k) = omega arith
part_end (w ∷ ws) zero = omega arith
part_end (w ∷ ws) (suc k) = let ih = part_end ws k in omega arith

-- ---- in a part

nets_read : (top : ℕ) (rows : List Row) (a h at : ℕ) → 1 ≤ a → a ≤ most_accounts → 1 ≤ h → h ≤ top
    → at ≡ account_width top * (a - 1) + net_width * (h - 1)
    → take net_width (drop at (nets_bytes top rows)) ≡ signed net_width (figure (net_of rows a h))
unfolding nets_bytes account_nets joined
nets_read top rows a h at a1 a2 h1 h2 e =
    let hours : ℕ → List ℕ = account_nets top rows in
    let net : ℕ → List ℕ = λ k. signed net_width (figure (net_of rows a k)) in
    let ea : suc (a - 1) ≡ a = omega arith in
    let eh : suc (h - 1) ≡ h = omega arith in
    let ga : get_or (map hours (up_to most_accounts)) (a - 1) [] ≡ hours a = up_to_at hours most_accounts (a - 1) (omega arith) ∙ ap hours ea in
    let gh : get_or (map net (up_to top)) (h - 1) [] ≡ net h = up_to_at net top (h - 1) (omega arith) ∙ ap net eh in
    read_cell (account_width top) (map hours (up_to most_accounts)) (uniform_map (account_width top) hours (up_to most_accounts) (length-account top rows))
    (a - 1) (net_width * (h - 1)) 4 at (omega (arith, length-map (up_to most_accounts) hours, counting-length most_accounts 1)) (omega arith) e
    ∙ ap (λ (x : List ℕ). take net_width (drop (net_width * (h - 1)) x)) ga
    ∙ read_cell 4 (map net (up_to top)) (uniform_map net_width net (up_to top) (λ k. length-signed net_width _)) (h - 1) 0 4 (net_width * (h - 1))
    (omega (arith, length-map (up_to top) net, counting-length top 1)) (omega arith) (omega arith)
    ∙ ap (take 4) gh
    ∙ take_all 4 (net h) (omega (arith, length-signed net_width (figure (net_of rows a h))))

module _ (top : ℕ) (p : Part) (f : PartFits p) where
  pub part_row_count : number_at (part_bytes top p) row_count_offset 2 ≡ length p.rows
  unfolding part_bytes part_sections
  part_row_count =
      let rf = f.rows_fit in
      number_part (part_widths top) (part_sections top p) (wide_part top p f) 1 0 2 row_count_offset (omega arith) (omega arith) (omega arith)
      ∙ number_alone 2 (length p.rows) (omega arith)

  -- a piece of a row
  pub part_row : (i j m at : ℕ) → i < length p.rows → j + m ≤ row_width → at ≡ row_offset i + j
      → take m (drop at (part_bytes top p)) ≡ take m (drop j (row_bytes (get_or p.rows i no_row)))
  unfolding part_bytes part_sections
  part_row i j m at h l e =
      let rf = f.rows_fit in
      read_part (part_widths top) (part_sections top p) (wide_part top p f) 2 (row_width * i + j) m at (omega arith) (omega arith) (omega arith)
      ∙ slots_get row_width most_rows row_bytes length_row p.rows i j m (row_width * i + j) no_row rf h l refl

  pub part_guarantee_read : (i at : ℕ) → i < length p.guarantees → at ≡ guarantee_width * i
      → take guarantee_width (drop at (part_bytes top p)) ≡ le guarantee_width (get_or p.guarantees i (cents 0)).0
  unfolding part_bytes part_sections
  part_guarantee_read i at h e =
      let gf = f.guarantees_fit in
      let g : List ℕ = le guarantee_width (get_or p.guarantees i (cents 0)).0 in
      read_part (part_widths top) (part_sections top p) (wide_part top p f) 0 (guarantee_width * i) 8 at (omega arith) (omega arith) (omega arith)
      ∙ slots_get guarantee_width most_operators (λ x. le guarantee_width x.0) length_guarantee p.guarantees i 0 8 (guarantee_width * i) (cents 0) gf h (omega arith) (omega arith)
      ∙ take_all guarantee_width g (omega (arith, length-le guarantee_width (get_or p.guarantees i (cents 0)).0))

  pub part_net : (a h at : ℕ) → 1 ≤ a → a ≤ most_accounts → 1 ≤ h → h ≤ top → at ≡ net_offset top a h
      → take net_width (drop at (part_bytes top p)) ≡ signed net_width (figure (net_of p.rows a h))
  unfolding part_bytes part_sections
  part_net a h at a1 a2 h1 h2 e =
      let j : ℕ = account_width top * (a - 1) + net_width * (h - 1) in
      let end : j + net_width * 1 ≤ most_accounts * account_width top = nets_end top a h 1 a1 a2 h1 (omega arith) in
      read_part (part_widths top) (part_sections top p) (wide_part top p f) 3 j 4 at (omega arith) (omega arith) (omega arith)
      ∙ nets_read top p.rows a h j a1 a2 h1 h2 refl

-- ---- in a book

module _ (top size : ℕ) (b : Book) (f : Fits b) where
  pub setup_read : take setup_room (image top size b) ≡ padded setup_room (stored_setup b.setup)
  unfolding image sections sections_with
  setup_read = read_whole (book_widths top size) (sections top size b) (wide_book top size b f) setup_section 0 setup_room (omega arith) refl refl

  pub phase_read : b.phase < 256 → number_at (image top size b) phase_offset 1 ≡ b.phase
  unfolding image sections sections_with
  phase_read h =
      number_part (book_widths top size) (sections top size b) (wide_book top size b f) 1 0 1 phase_offset (omega arith) (omega arith) (omega arith)
      ∙ number_alone 1 b.phase h

  pub flag_read : number_at (image top size b) flag_offset 1 ≡ flag b.saved
  unfolding image sections sections_with
  flag_read =
      number_part (book_widths top size) (sections top size b) (wide_book top size b f) 2 0 1 flag_offset (omega arith) (omega arith) (omega arith)
      ∙ number_alone 1 (flag b.saved) (small b.saved)
    where
      small : (o : Option Part) → flag o < 256 ^ 1
      small None = omega arith
      small (Some p) = omega arith

  pub schedule_count_read : number_at (image top size b) schedule_count_offset 2 ≡ length b.schedules
  unfolding image sections sections_with
  schedule_count_read =
      let sf = f.schedules_fit in
      number_part (book_widths top size) (sections top size b) (wide_book top size b f) 3 0 2 schedule_count_offset (omega arith) (omega arith) (omega arith)
      ∙ number_alone 2 (length b.schedules) (omega arith)

  -- a piece of a schedule
  schedule_piece : (i j m at : ℕ) (d : Schedule) → i < length b.schedules → j + m ≤ schedule_width → at ≡ schedules_offset + schedule_width * i + j
      → take m (drop at (image top size b)) ≡ take m (drop j (schedule_bytes (get_or b.schedules i d)))
  unfolding image sections sections_with
  schedule_piece i j m at d h l e =
      let sf = f.schedules_fit in
      read_part (book_widths top size) (sections top size b) (wide_book top size b f) 4 (schedule_width * i + j) m at (omega arith) (omega arith) (omega arith)
      ∙ slots_get schedule_width most_schedules schedule_bytes length-schedule b.schedules i j m (schedule_width * i + j) d sf h l refl

  pub schedule_read : (i at : ℕ) (d : Schedule) → i < length b.schedules → at ≡ schedules_offset + schedule_width * i
      → take schedule_width (drop at (image top size b)) ≡ schedule_bytes (get_or b.schedules i d)
  schedule_read i at d h e =
      let x : Schedule = get_or b.schedules i d in
      schedule_piece i 0 schedule_width at d h (omega arith) (omega arith)
      ∙ take_all schedule_width (schedule_bytes x) (omega (arith, length-schedule x))

  -- value k of a schedule
  pub schedule_value_read : (i k at : ℕ) (d : Schedule) → i < length b.schedules
      → Small schedule_widths (schedule_values (get_or b.schedules i d))
      → at ≡ schedules_offset + schedule_width * i + start_of schedule_widths k
      → number_at (image top size b) at (get_or schedule_widths k 0) ≡ get_or (schedule_values (get_or b.schedules i d)) k 0
  unfolding number_at schedule_bytes
  schedule_value_read i k at d h small e =
      ap number (schedule_piece i (start_of schedule_widths k) (get_or schedule_widths k 0) at d h (part_end schedule_widths k) e)
      ∙ number_in_pack schedule_widths (schedule_values (get_or b.schedules i d)) k small

  -- a piece of the present part
  pub present_read : (j m at : ℕ) → j + m ≤ part_size top → at ≡ present_offset + j
      → take m (drop at (image top size b)) ≡ take m (drop j (part_bytes top b.part))
  unfolding image sections sections_with
  present_read j m at l e =
      read_part (book_widths top size) (sections top size b) (wide_book top size b f) 5 j m at (omega arith) l (omega arith)

  -- a piece of the saved part
  pub saved_read : (p : Part) (j m at : ℕ) → b.saved ≡ Some p → j + m ≤ part_size top → at ≡ saved_offset top + j
      → take m (drop at (image top size b)) ≡ take m (drop j (part_bytes top p))
  unfolding image sections sections_with saved_bytes
  saved_read p j m at s l e =
      read_part (book_widths top size) (sections top size b) (wide_book top size b f) 6 j m at (omega arith) l (omega arith)
      ∙ rw s

  -- the place of an account's ask
  pub ask_read : (a at : ℕ) → 1 ≤ a → a ≤ length b.asks → at ≡ ask_offset top a
      → take row_width (drop at (image top size b)) ≡ ask_bytes (ask_at b a)
  unfolding image sections sections_with
  ask_read (suc i) at low high e =
      let o : Option Row = get_or b.asks i None in
      let af = f.asks_fit in
      read_part (book_widths top size) (sections top size b) (wide_book top size b f) asks_section (row_width * i) row_width at (omega arith) (omega arith) (omega arith)
      ∙ slots_get row_width most_accounts ask_bytes length_ask b.asks i 0 row_width (row_width * i) None af (omega arith) (omega arith) (omega arith)
      ∙ take_all row_width (ask_bytes o) (omega (arith, length_ask o))
  ask_read zero at low high e = absurd (omega arith)

  pub row_count_read : number_at (image top size b) (present_offset + row_count_offset) 2 ≡ length b.part.rows
  unfolding number_at
  row_count_read =
      ap number (present_read row_count_offset 2 (present_offset + row_count_offset) (omega arith) refl) ∙ part_row_count top b.part f.part_fits

  pub saved_row_count_read : (p : Part) → b.saved ≡ Some p → number_at (image top size b) (saved_offset top + row_count_offset) 2 ≡ length p.rows
  unfolding number_at
  saved_row_count_read p s =
      let sf : PartFits p = rw s at f.saved_fits in
      ap number (saved_read p row_count_offset 2 (saved_offset top + row_count_offset) s (omega arith) refl) ∙ part_row_count top p sf

  row_piece : (i j m at : ℕ) → i < length b.part.rows → j + m ≤ row_width → at ≡ present_offset + row_offset i + j
      → take m (drop at (image top size b)) ≡ take m (drop j (row_bytes (get_or b.part.rows i no_row)))
  row_piece i j m at h l e =
      let rf = f.part_fits.rows_fit in
      present_read (row_offset i + j) m at (omega arith) (omega arith) ∙ part_row top b.part f.part_fits i j m (row_offset i + j) h l refl

  pub row_read : (i at : ℕ) → i < length b.part.rows → at ≡ present_offset + row_offset i
      → take row_width (drop at (image top size b)) ≡ row_bytes (get_or b.part.rows i no_row)
  row_read i at h e =
      let r : Row = get_or b.part.rows i no_row in
      row_piece i 0 row_width at h (omega arith) (omega arith) ∙ take_all row_width (row_bytes r) (omega (arith, length_row r))

  -- value k of a row
  pub row_value_read : (i k at : ℕ) → i < length b.part.rows
      → Small row_widths (row_values (get_or b.part.rows i no_row))
      → at ≡ present_offset + row_offset i + start_of row_widths k
      → number_at (image top size b) at (get_or row_widths k 0) ≡ get_or (row_values (get_or b.part.rows i no_row)) k 0
  unfolding number_at row_bytes
  row_value_read i k at h small e =
      ap number (row_piece i (start_of row_widths k) (get_or row_widths k 0) at h (part_end row_widths k) e)
      ∙ number_in_pack row_widths (row_values (get_or b.part.rows i no_row)) k small

  pub guarantee_read : (i at : ℕ) → i < length b.part.guarantees → (get_or b.part.guarantees i (cents 0)).0 < 256 ^ guarantee_width
      → at ≡ present_offset + guarantees_offset + guarantee_width * i
      → number_at (image top size b) at guarantee_width ≡ (get_or b.part.guarantees i (cents 0)).0
  unfolding number_at
  guarantee_read i at h small e =
      let gf = f.part_fits.guarantees_fit in
      ap number (present_read (guarantee_width * i) 8 at (omega arith) (omega arith) ∙ part_guarantee_read top b.part f.part_fits i (guarantee_width * i) h refl)
      ∙ number-le guarantee_width _ small

  -- the net of an account in an hour, signed
  pub net_bytes_read : (a h at : ℕ) → 1 ≤ a → a ≤ most_accounts → 1 ≤ h → h ≤ top → at ≡ present_offset + net_offset top a h
      → take net_width (drop at (image top size b)) ≡ signed net_width (figure (net_of b.part.rows a h))
  net_bytes_read a h at a1 a2 h1 h2 e =
      let end = nets_end top a h 1 a1 a2 h1 (omega arith) in
      present_read (net_offset top a h) net_width at (omega arith) e ∙ part_net top b.part f.part_fits a h (net_offset top a h) a1 a2 h1 h2 refl

  -- as a number: what was bought, and all ones for each that was sold
  pub net_read : (a h at : ℕ) → 1 ≤ a → a ≤ most_accounts → 1 ≤ h → h ≤ top → at ≡ present_offset + net_offset top a h
      → number_at (image top size b) at net_width ≡ (bought b.part.rows a h + (256 ^ net_width - 1) * sold b.part.rows a h) % 256 ^ net_width
  unfolding number_at
  net_read a h at a1 a2 h1 h2 e =
      ap number (net_bytes_read a h at a1 a2 h1 h2 e ∙ signed_sub net_width (bought b.part.rows a h) (sold b.part.rows a h)) ∙ number_le_rest 4 _
