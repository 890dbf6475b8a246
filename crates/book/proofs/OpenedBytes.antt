-- What opening writes is the image of the book that it opens: over zeros, the set-up with no guarantees, the phase, and the
-- guarantees in the present part; all other sections of a fresh book are zeros.
use Rattle.std.specs.Prelude.{None}
use Prim.Native.Nat.{ℕ, zero, suc, ◌+◌, ◌-◌, ◌*◌, ◌≤◌}
use mathlib.Core.Path.{◌≡◌, refl, sym, ap, ◌∙◌}
use mathlib.Core.List.{List, [], ◌∷◌, ◌++◌, map, append_assoc}
use native.Mathlib.Nat.{mul-zero, add-zero}
use native.Mathlib.Omega.{arith}
use lib.ListN.{length, set, take, drop, replicate, length-append, length-drop, take-append-drop}
use lib.Seq.{take_all, drop-drop, length-take-le}
use Rattle.wire.specs.Numbers.{number_at, le, signed, Bytes}
use Rattle.wire.specs.Regions.{splice}
use Rattle.wire.specs.Parts.{zeros, padded, flat, start_of, slots, chunks}
use Rattle.wire.proofs.NumberLaws.{length-le, le_number_wide, bytes_take, bytes_drop}
use Rattle.wire.proofs.RegionLaws.{splice_take_drop, length_splice, splice_left, splice_right}
use Rattle.wire.proofs.ZeroLaws.{length-zeros, zeros_none, zeros_add, le_zero, splice_zeros, length_padded}
use Rattle.wire.proofs.PartLaws.{write_part, write_whole, wide_zeros, wide_set, flat-zeros}
use Rattle.wire.proofs.PackLaws.{write-number}
use Rattle.wire.proofs.SlotLaws.{slots_split, slots_none}
use Rattle.units.specs.declared.Cents.{Cents}
use Rattle.units.specs.Units.{cents}
use Rattle.rules.specs.declared.Counts.{Counts}
use Rattle.rules.specs.declared.Operator.{Operator}
use Rattle.rules.specs.Basics.{total, counting, entries, joined}
use Rattle.rules.specs.Limits.{most_operators, most_accounts, most_rows, most_schedules}
use Rattle.rules.specs.Books.{Setup, operator_count, account_count, point_count, counts_of}
use Rattle.rules.specs.Opening.{counts_in, operators_offset, setup_length, operator_in, operators_in, setup_of, guarantees_of, operator_bytes, account_bytes, point_bytes, operators_of, setup_bytes, setup_refusal, opened, operator_entry, guarantee_width}
use Rattle.rules.specs.Registration.{moved}
use Rattle.rules.proofs.Basics.Searches.{each_any}
use Rattle.rules.proofs.Setups.SetupEntries.{operator_at, counts_of_setup}
use Rattle.rules.proofs.Setups.SetupShape.{accepted_shape}
use Rattle.image.specs.Layout.{setup_room, row_width, schedule_width, account_width, part_widths, part_size, used_size, book_widths, phase_offset, present_offset, setup_section, phase_section, present_section, guarantees_section}
use Rattle.image.specs.Image.{row_bytes, schedule_bytes, account_nets, nets_bytes, part_sections, part_bytes, saved_bytes, stored_setup, sections_with, sections, image}
use Rattle.image.proofs.Sound.Soundness.{sound_setup}
use Rattle.image.proofs.Writing.Sizes.{Fits, fits, length_row, length-schedule, length_guarantee, length_joined, length-operator_bytes, length_operators, length_stored}
use Rattle.image.proofs.Writing.BookWrites.{no_asks_zero}
use Rattle.image.proofs.Keeping.Opened.{opened_sound}
use Rattle.image.proofs.Setups.SetupAgain.{bytes_again, length_guarantees, accepted_sound}
use Rattle.book.specs.Fresh.{guarantees_cleared, guarantees_put}

-- ---- the two loops over operators

-- bytes replaced, and then those that follow them
splice-next : (d : List ℕ) (at next : ℕ) (x y : List ℕ) → next ≡ at + length x → at + length x ≤ length d → splice (splice d at x) next y ≡ splice d at (x ++ y)
splice-next d at next x y e h =
    let front : List ℕ = take at d ++ x in
    let rest : List ℕ = drop (at + length x) d in
    let lf : length front ≡ at + length x = length-append (take at d) x ∙ omega (arith, length-take-le at d (omega arith)) in
    let a : splice d at x ≡ front ++ rest = splice_take_drop d at x ∙ sym (append_assoc (take at d) x rest) in
    let z : 0 + length y ≡ length y = omega arith in
    let f : at + length x + length y ≡ at + length (x ++ y) = omega (arith, length-append x y) in
    ap (λ (l : List ℕ). splice l next y) a
    ∙ splice_right front rest next 0 y (omega arith)
    ∙ rw (splice_take_drop rest 0 y, z, drop-drop (length y) (at + length x) d, f, splice_take_drop d at (x ++ y))
    (simp append_assoc)

-- a guarantee as it stands in a set-up
guarantee_bytes : (s : List ℕ) (from : ℕ) → Bytes s → from + operator_entry ≤ length s → le guarantee_width (operator_in (take operator_entry (drop from s))).guarantee.0 ≡ take guarantee_width (drop from s)
unfolding number_at
guarantee_bytes s from b l =
    rw (operator_at s from) (le_number_wide (bytes_take guarantee_width (bytes_drop from b)) 8 (length-take-le guarantee_width (drop from s) (omega (arith, length-drop from s))))

-- guarantees side by side
abbrev pub guarantees_bytes : List Cents → List ℕ
guarantees_bytes gs = joined (λ g. le guarantee_width g.0) gs

pub length_guarantees_bytes : (gs : List Cents) → length (guarantees_bytes gs) ≡ guarantee_width * length gs
length_guarantees_bytes gs = length_joined guarantee_width (λ g. le guarantee_width g.0) gs (each_any gs length_guarantee)

copied : (n : ℕ) (d : List ℕ) (at : ℕ) (s : List ℕ) (from : ℕ) → Bytes s → from + operator_entry * n ≤ length s → at + guarantee_width * n ≤ length d
    → guarantees_put d at s from n ≡ splice d at (guarantees_bytes (map (λ x. x.guarantee) (entries operator_entry operator_in n (drop from s))))
unfolding guarantees_put entries joined chunks flat
copied zero d at s from b l h = sym (splice_take_drop d at [] ∙ rw (add-zero at) (take-append-drop at d))
copied (suc n) d at s from b l h =
    let x : List ℕ = take guarantee_width (drop from s) in
    let lx : length x ≡ guarantee_width = length-take-le guarantee_width (drop from s) (omega (arith, length-drop from s)) in
    let ls : length (splice d at x) ≡ length d = length_splice d at x (omega arith) in
    copied n (splice d at x) (at + guarantee_width) s (from + operator_entry) b (omega arith) (omega arith)
    ∙ splice-next d at (at + guarantee_width) x _ (omega arith) (omega arith)
    ∙ rw (guarantee_bytes s from b (omega arith), drop-drop operator_entry from s)

-- the guarantees of a set-up copied one by one are copied
pub guarantees_put_guarantees : (d : List ℕ) (at : ℕ) (s : List ℕ) → Bytes s → setup_length (counts_in s) ≤ length s → at + guarantee_width * (counts_in s).operators ≤ length d
    → guarantees_put d at s (operators_offset (counts_in s)) (counts_in s).operators ≡ splice d at (guarantees_bytes (guarantees_of s))
unfolding guarantees_of operators_in
guarantees_put_guarantees d at s b l h = copied (counts_in s).operators d at s (operators_offset (counts_in s)) b (omega arith) h

-- an operator with no guarantee
abbrev emptied : Operator → Operator
emptied x = record { guarantee = cents 0; maintenance = x.maintenance }

operators_emptied : (gs : List Cents) (ms : List ℕ) → length gs ≡ length ms → map emptied (operators_of gs ms) ≡ operators_of (replicate (length ms) (cents 0)) ms
unfolding operators_of
operators_emptied [] [] h = refl
operators_emptied [] (m ∷ ms) h = absurd (omega arith)
operators_emptied (g ∷ gs) [] h = absurd (omega arith)
operators_emptied (g ∷ gs) (m ∷ ms) h = rw (operators_emptied gs ms (omega arith))

operator_emptied : (x : Operator) → splice (operator_bytes x) 0 (zeros guarantee_width) ≡ operator_bytes (emptied x)
operator_emptied x = rw (← (le_zero guarantee_width)) (write-number (8 ∷ 2 ∷ []) (x.guarantee.0 ∷ x.maintenance ∷ []) 0 0 0 refl (omega arith) refl)

emptied_entries : (os : List Operator) (a rest : List ℕ) (at : ℕ) → at ≡ length a
    → guarantees_cleared (a ++ (joined operator_bytes os ++ rest)) at (length os) ≡ a ++ (joined operator_bytes (map emptied os) ++ rest)
unfolding guarantees_cleared joined flat
emptied_entries [] a rest at e = refl
emptied_entries (x ∷ os) a rest at e =
    let y : List ℕ = operator_bytes (emptied x) in
    let t : List ℕ = joined operator_bytes os ++ rest in
    let one : splice (a ++ ((operator_bytes x ++ joined operator_bytes os) ++ rest)) at (zeros guarantee_width) ≡ (a ++ y) ++ t =
    ap (λ (l : List ℕ). splice (a ++ l) at (zeros guarantee_width)) (append_assoc (operator_bytes x) (joined operator_bytes os) rest)
    ∙ splice_right a (operator_bytes x ++ t) at 0 (zeros guarantee_width) (omega arith)
    ∙ ap (λ (l : List ℕ). a ++ l) (splice_left (operator_bytes x) t 0 (zeros guarantee_width) (omega (arith, length-operator_bytes x, length-zeros guarantee_width)))
    ∙ rw (operator_emptied x) (sym (append_assoc a y t)) in
    ap (λ (l : List ℕ). guarantees_cleared l (at + operator_entry) (length os)) one
    ∙ emptied_entries os (a ++ y) rest (at + operator_entry) (omega (arith, length-append a y, length-operator_bytes (emptied x)))
    ∙ simp append_assoc

-- the guarantees in the bytes of a set-up made zero one by one leave the stored set-up
guarantees_cleared_setup : (u : Setup) (gs : List Cents) (rest : List ℕ) → length gs ≡ operator_count u → length u.estimates ≡ u.hours
    → guarantees_cleared (setup_bytes u gs ++ rest) (operators_offset (counts_of u)) (operator_count u) ≡ stored_setup u ++ rest
unfolding setup_bytes stored_setup
guarantees_cleared_setup u gs rest g e =
    let c : List ℕ = u.hours ∷ operator_count u ∷ account_count u ∷ point_count u ∷ u.zones ∷ [] in
    let prices : List ℕ = joined (λ p. le 4 p.0) u.estimates in
    let l : length (c ++ prices) ≡ operators_offset (counts_of u) =
    length-append c prices ∙ omega (arith, length_joined 4 (λ p. le 4 p.0) u.estimates (each_any _ (λ p. length-le 4 p.0))) in
    let os : List Operator = operators_of gs u.maintenance in
    let accounts : List ℕ = joined account_bytes u.accounts in
    let points : List ℕ = joined point_bytes u.points in
    let at : ℕ = operators_offset (counts_of u) in
    ap (λ (x : List ℕ). guarantees_cleared x at (operator_count u)) (apart (c ++ prices) (joined operator_bytes os) accounts points rest)
    ∙ ap (guarantees_cleared ((c ++ prices) ++ (joined operator_bytes os ++ (accounts ++ (points ++ rest)))) at) (sym (length_operators gs u.maintenance g))
    ∙ emptied_entries os (c ++ prices) (accounts ++ (points ++ rest)) at (sym l)
    ∙ rw (operators_emptied gs u.maintenance g) (sym (apart (c ++ prices) _ accounts points rest))
  where
    apart : (f o a p rest : List ℕ) → f ++ o ++ a ++ p ++ rest ≡ f ++ (o ++ (a ++ (p ++ rest)))
    apart f o a p rest = simp append_assoc

-- ---- a fresh book in bytes

module _ (s : List ℕ) (b : Bytes s) (h : setup_refusal s ≡ None) where
  whole : setup_bytes (setup_of s) (guarantees_of s) ≡ s
  whole =
      let l = (accepted_shape s h).exact in
      bytes_again s b (omega arith) ∙ take_all (setup_length (counts_in s)) s (omega arith)

  fit : Fits (opened s)
  fit = fits (opened s) (opened_sound s h)

  pub length_stored_opened : length (stored_setup (setup_of s)) ≡ length s
  length_stored_opened =
      let k = sound_setup (setup_of s) (accepted_sound s h) in
      length_stored (setup_of s) k.estimates_all k.margins_all
      ∙ ap setup_length (counts_of_setup s) ∙ sym (accepted_shape s h).exact

  -- the set-up at the front of zeros, its guarantees made zero
  pub guarantees_cleared_opened : (size : ℕ) → length s ≤ size
      → guarantees_cleared (splice (zeros size) 0 s) (operators_offset (counts_in s)) (counts_in s).operators ≡ splice (zeros size) 0 (stored_setup (setup_of s))
  unfolding padded
  guarantees_cleared_opened size l =
      let u : Setup = setup_of s in
      let gs : List Cents = guarantees_of s in
      let r : List ℕ = zeros (size - length s) in
      let g : length gs ≡ operator_count u = length_guarantees s ∙ sym (ap (λ (c : Counts). c.operators) (counts_of_setup s)) in
      ap (λ (x : List ℕ). guarantees_cleared x (operators_offset (counts_in s)) (counts_in s).operators) (splice_zeros size s l ∙ ap (λ (x : List ℕ). x ++ r) (sym whole))
      ∙ ap (λ (c : Counts). guarantees_cleared (setup_bytes u gs ++ r) (operators_offset c) c.operators) (sym (counts_of_setup s))
      ∙ guarantees_cleared_setup u gs r g (sound_setup u (accepted_sound s h)).estimates_all
      ∙ sym (splice_zeros size (stored_setup u) (omega (arith, length_stored_opened))
      ∙ ap (λ (k : ℕ). stored_setup u ++ zeros (size - k)) length_stored_opened)

-- no rows, no nets
zero_cells : (w : ℕ) (f : ℕ → List ℕ) (m from : ℕ) → ((x : ℕ) → f x ≡ zeros w) → flat (map f (counting m from)) ≡ zeros (w * m)
unfolding flat counting
zero_cells w f zero from e = sym zeros_none ∙ ap zeros (sym (mul-zero w))
zero_cells w f (suc m) from e =
    let k : w + w * m ≡ w * suc m = omega arith in
    rw (e from, zero_cells w f m (suc from) e) (zeros_add w (w * m) ∙ rw k)

pub nets_empty : (top : ℕ) → nets_bytes top [] ≡ zeros (most_accounts * account_width top)
unfolding nets_bytes account_nets joined signed moved total
nets_empty top =
    let k : account_width top * most_accounts ≡ most_accounts * account_width top = omega arith in
    zero_cells (account_width top) _ most_accounts 1 (λ a. zero_cells 4 _ top 1 (λ x. le_zero 4)) ∙ ap zeros k

-- guarantees at the front of a part of zeros
part_fresh : (top : ℕ) (gs : List Cents) → length gs ≤ most_operators
    → splice (zeros (part_size top)) 0 (guarantees_bytes gs) ≡ part_bytes top (record { guarantees = gs; rows = [] })
unfolding part_bytes part_sections padded joined
part_fresh top gs h =
    let ws : List ℕ = part_widths top in
    let x : List ℕ = guarantees_bytes gs in
    let lx = length_guarantees_bytes gs in
    let sz : part_size top ≡ start_of ws (length ws) = omega arith in
    let a0 : zeros (part_size top) ≡ flat (map zeros ws) = ap zeros sz ∙ sym (flat-zeros ws) in
    let a1 = write_part ws (map zeros ws) (wide_zeros ws) guarantees_section 0 0 x (omega arith) (omega arith) (omega arith) in
    let a2 : splice (zeros (guarantee_width * most_operators)) 0 x ≡ slots guarantee_width most_operators (λ (g : Cents). le guarantee_width g.0) gs =
    splice_zeros (guarantee_width * most_operators) x (omega arith) ∙ rw lx (sym (slots_split guarantee_width most_operators (λ (g : Cents). le guarantee_width g.0) length_guarantee gs)) in
    rw (a0, a1, a2, le_zero 2, slots_none row_width most_rows row_bytes length_row, nets_empty top)

-- zeros, the set-up with no guarantees, phase 1, and the guarantees in the present part
pub image-opened : (top size : ℕ) (s : List ℕ) → Bytes s → setup_refusal s ≡ None → used_size top ≤ size
    → splice (splice (splice (zeros size) 0 (stored_setup (setup_of s))) phase_offset (le 1 1)) present_offset (guarantees_bytes (guarantees_of s)) ≡ image top size (opened s)
unfolding image sections sections_with saved_bytes opened
image-opened top size s b h g =
    let f = fit s b h in
    let x : List ℕ = guarantees_bytes (guarantees_of s) in
    let lx = length_guarantees_bytes (guarantees_of s) in
    let ws : List ℕ = book_widths top size in
    let s0 : List (List ℕ) = map zeros ws in
    let w0 = wide_zeros ws in
    let t : List ℕ = stored_setup (setup_of s) in
    let lt : length t ≤ setup_room = f.setup_fits in
    let lg : length (guarantees_of s) ≤ most_operators = f.part_fits.guarantees_fit in
    let y : List ℕ = padded setup_room t in
    let ly : length y ≡ setup_room = length_padded setup_room t lt in
    let sz : size ≡ start_of ws (length ws) = omega arith in
    let a0 : zeros size ≡ flat s0 = ap zeros sz ∙ sym (flat-zeros ws) in
    let a1 : splice (flat s0) 0 t ≡ flat (set s0 setup_section y) = write_part ws s0 w0 setup_section 0 0 t (omega arith) (omega arith) (omega arith) ∙ rw (splice_zeros setup_room t lt) in
    let w1 = wide_set ws s0 setup_section y w0 ly in
    let a2 = write_whole ws (set s0 setup_section y) w1 phase_section phase_offset (le 1 1) (omega arith) (length-le 1 1) (omega arith) in
    let w2 = wide_set ws (set s0 setup_section y) phase_section (le 1 1) w1 (length-le 1 1) in
    let a3 = write_part ws (set (set s0 setup_section y) phase_section (le 1 1)) w2 present_section 0 present_offset x (omega arith) (omega arith) (omega arith) in
    rw (a0, a1, a2, a3, part_fresh top (guarantees_of s) lg, le_zero 1, le_zero 2, slots_none schedule_width most_schedules schedule_bytes length-schedule, no_asks_zero)

-- the same, as it is written: the set-up copied, its guarantees made zero, the phase, and the guarantees copied one by one
pub opening_writes : (top size : ℕ) (s : List ℕ) → Bytes s → setup_refusal s ≡ None → used_size top ≤ size
    → guarantees_put (splice (guarantees_cleared (splice (zeros size) 0 s) (operators_offset (counts_in s)) (counts_in s).operators) phase_offset (le 1 1))
    present_offset s (operators_offset (counts_in s)) (counts_in s).operators
    ≡ image top size (opened s)
unfolding opened
opening_writes top size s b h g =
    let f = fit s b h in
    let t : List ℕ = stored_setup (setup_of s) in
    let lt : length t ≤ setup_room = f.setup_fits in
    let ls = length_stored_opened s b h in
    let lg : length (guarantees_of s) ≤ most_operators = f.part_fits.guarantees_fit in
    let lo = length_guarantees s in
    let l = (accepted_shape s h).exact in
    let d : List ℕ = splice (splice (zeros size) 0 t) phase_offset (le 1 1) in
    let l0 = length-zeros size in
    let l1 = length_splice (zeros size) 0 t (omega arith) in
    let ld = length_splice (splice (zeros size) 0 t) phase_offset (le 1 1) (omega (arith, length-le 1 1)) in
    rw (guarantees_cleared_opened s b h size (omega arith)) (guarantees_put_guarantees d present_offset s b (omega arith) (omega arith) ∙ image-opened top size s b h g)
