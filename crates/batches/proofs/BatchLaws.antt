-- A part copied or cleared in two stretches: up to its last row, and from its net positions on. Between them it is zero already, as laws say
-- of both parts of a book.
use Rattle.std.specs.Prelude.{Option, None, Some}
use Prim.Native.Nat.{ℕ, ◌+◌, ◌-◌, ◌*◌, ◌≤◌}
use mathlib.Core.Path.{◌≡◌, refl, sym, ap, ◌∙◌}
use mathlib.Core.List.{List, ◌++◌, append_assoc}
use mathlib.Core.Logic.{◌⊎◌, ⊎_elim, inl, inr}
use mathlib.Core.Bool.{true}
use native.Mathlib.Omega.{arith}
use lib.ListN.{length, take, drop, length-append, length-drop, take-append-drop}
use lib.Seq.{take_at, drop_at, take_all, take-add, drop-drop, drop-paste, length-take-le, take-append-le, drop-append-le}
use Rattle.wire.specs.Regions.{splice, pasted, Apart}
use Rattle.wire.specs.Parts.{zeros}
use Rattle.wire.proofs.RegionLaws.{pasted-splice, length-pasted, splice_take_drop, splice-append}
use Rattle.wire.proofs.ZeroLaws.{length-zeros, zeros_add}
use Rattle.wire.proofs.PartLaws.{read_part, inner, take-drop-take}
use Rattle.wire.proofs.SlotLaws.{slots_rest}
use Rattle.rules.specs.Basics.{is_some}
use Rattle.rules.specs.Limits.{most_hours, most_rows, book_size}
use Rattle.rules.specs.Books.{Part, Book}
use Rattle.rules.specs.Calls.{restored}
use Rattle.rules.proofs.Basics.Searches.{some_of}
use Rattle.image.specs.Layout.{row_width, part_widths, part_size, book_widths, present_offset, saved_offset, row_offset, nets_offset}
use Rattle.image.specs.Image.{row_bytes, part_sections, part_bytes, saved_bytes, sections_with, sections, image}
use Rattle.image.specs.Valid.{is_sound, book_in}
use Rattle.image.proofs.Writing.Sizes.{PartFits, Fits, length_row, wide_part, wide_book}
use Rattle.image.proofs.Reading.ImageReads.{present_read, saved_read}
use Rattle.book.proofs.StateLaws.{book_image, book_fits, row_count_high, saved_rows_fewer}
use Rattle.batches.specs.Rooms.{HasPart, NoRowsPast, part_copied, part_cleared}

-- ---- regions

-- x, y and z put one after the other are put by x and z alone where y is there already
splice_around : (s : List ℕ) (at : ℕ) (x y z : List ℕ) → at ≤ length s → take (length y) (drop (at + length x) s) ≡ y
    → splice (splice s at x) (at + length (x ++ y)) z ≡ splice s at ((x ++ y) ++ z)
splice_around s at x y z h e =
    let far : at + length x + length y ≡ at + length (x ++ y) = omega (arith, length-append x y) in
    let rest : drop (at + length x) s ≡ y ++ drop (at + length (x ++ y)) s =
    sym (take-append-drop (length y) (drop (at + length x) s))
    ∙ rw (e, drop-drop (length y) (at + length x) s, far) in
    let more : splice s at x ≡ splice s at (x ++ y) =
    splice_take_drop s at x ∙ rw rest (ap (λ (l : List ℕ). take at s ++ l) (sym (append_assoc x y (drop (at + length (x ++ y)) s)))) ∙ sym (splice_take_drop s at (x ++ y)) in
    rw more (splice-append s at (x ++ y) z h)

-- the bytes beside a region that was copied to are as they were
read_beside : (d : List ℕ) (at : ℕ) (s : List ℕ) (n k m : ℕ) → at + n ≤ length d → n ≤ length s → (k + m ≤ at) ⊎ (at + n ≤ k)
    → take m (drop k (pasted d at s n)) ≡ take m (drop k d)
unfolding pasted
read_beside d at s n k m hd hs o =
    let rest : List ℕ = take n s ++ drop (at + n) d in
    let l : length (take at d) ≡ at = length-take-le at d (omega arith) in
    ⊎_elim (λ w.
    ap (λ (x : List ℕ). take m (drop k x)) (append_assoc (take at d) (take n s) (drop (at + n) d))
    ∙ ap (take m) (drop-append-le k (take at d) rest (omega arith))
    ∙ take-append-le m (drop k (take at d)) rest (omega (arith, length-drop k (take at d)))
    ∙ take-drop-take m k at d w) (λ w.
    let e : at + n + (k - (at + n)) ≡ k = omega arith in
    ap (take m)
    (ap (λ (i : ℕ). drop i (pasted d at s n)) (sym e)
    ∙ sym (drop-drop (k - (at + n)) (at + n) (pasted d at s n))
    ∙ ap (drop (k - (at + n))) (drop-paste d at s n (omega arith) hs)
    ∙ drop-drop (k - (at + n)) (at + n) d
    ∙ ap (λ (i : ℕ). drop i d) e)) o

-- a piece of zeros
zeros_piece : (j m k : ℕ) → j + m ≤ k → take m (drop j (zeros k)) ≡ zeros m
zeros_piece j m k h =
    let r : ℕ = k - (j + m) in
    let e : k ≡ j + (m + r) = omega arith in
    rw (e, ← zeros_add j (m + r), drop_at (zeros j) (zeros (m + r)) j (length-zeros j), ← zeros_add m r)
    (take_at (zeros m) (zeros r) m (length-zeros m))

-- ---- a part in two stretches: up to the end of its rows, and its net positions

abbrev size : ℕ
size = part_size most_hours

abbrev nets : ℕ
nets = size - nets_offset

-- how much lies between them
abbrev gap : ℕ → ℕ
gap n = row_width * most_rows - row_width * n

module _ (s x y : List ℕ) (n : ℕ) (few : n ≤ most_rows) where
  pub part_copied_lem : (from to : ℕ) → HasPart s from → HasPart s to → Apart from to size → NoRowsPast s from n → NoRowsPast s to n
      → x ≡ pasted s to (drop from s) (row_offset n) → y ≡ pasted x (to + nets_offset) (drop (from + nets_offset) x) nets → y ≡ part_copied s from to
  unfolding NoRowsPast
  part_copied_lem from to hf ht apart zf zt e g =
      let d : List ℕ = drop from s in
      let ld : length d ≡ length s - from = length-drop from s in
      let a : List ℕ = take (row_offset n) d in
      let la : length a ≡ row_offset n = length-take-le (row_offset n) d (omega arith) in
      let z : List ℕ = zeros (gap n) in
      let lz : length z ≡ gap n = length-zeros (gap n) in
      let c : List ℕ = take nets (drop (from + nets_offset) s) in
      let lx : length x ≡ length s = ap length e ∙ length-pasted s to d (row_offset n) (omega arith) (omega arith) in
      let behind : take nets (drop (from + nets_offset) x) ≡ c =
      ap (λ (l : List ℕ). take nets (drop (from + nets_offset) l)) e
      ∙ read_beside s to d (row_offset n) (from + nets_offset) nets (omega arith) (omega arith)
      (⊎_elim (λ w. inl (omega arith)) (λ w. inr (omega arith)) apart) in
      let place : to + nets_offset ≡ to + length (a ++ z) = omega (arith, length-append a z) in
      let sum : row_offset n + gap n ≡ nets_offset = omega arith in
      let front : a ++ z ≡ take nets_offset d =
      ap (λ (l : List ℕ). a ++ l) (sym (ap (take (gap n)) (drop-drop (row_offset n) from s) ∙ zf))
      ∙ sym (take-add (row_offset n) (gap n) d)
      ∙ ap (λ (i : ℕ). take i d) sum in
      let whole : (a ++ z) ++ c ≡ take size d =
      rw front (ap (λ (l : List ℕ). take nets_offset d ++ take nets l) (sym (drop-drop nets_offset from s)) ∙ sym (take-add nets_offset nets d)) in
      g
      ∙ pasted-splice x (to + nets_offset) (drop (from + nets_offset) x) nets (omega (arith, length-drop (from + nets_offset) x))
      ∙ ap (splice x (to + nets_offset)) behind
      ∙ ap (λ (l : List ℕ). splice l (to + nets_offset) c) (e ∙ pasted-splice s to d (row_offset n) (omega arith))
      ∙ ap (λ (i : ℕ). splice (splice s to a) i c) place
      ∙ splice_around s to a z c (omega arith) (rw (lz, la) zt)
      ∙ ap (splice s to) whole
      ∙ sym (pasted-splice s to d size (omega arith))

  pub part_cleared_lem : (at : ℕ) → HasPart s at → NoRowsPast s at n
      → x ≡ splice s at (zeros (row_offset n)) → y ≡ splice x (at + nets_offset) (zeros nets) → y ≡ part_cleared s at
  unfolding NoRowsPast
  part_cleared_lem at h z e g =
      let a : List ℕ = zeros (row_offset n) in
      let la : length a ≡ row_offset n = length-zeros (row_offset n) in
      let b : List ℕ = zeros (gap n) in
      let lb : length b ≡ gap n = length-zeros (gap n) in
      let place : at + nets_offset ≡ at + length (a ++ b) = omega (arith, length-append a b) in
      let sum : row_offset n + gap n ≡ nets_offset = omega arith in
      g
      ∙ ap (λ (l : List ℕ). splice l (at + nets_offset) (zeros nets)) e
      ∙ ap (λ (i : ℕ). splice (splice s at a) i (zeros nets)) place
      ∙ splice_around s at a b (zeros nets) (omega arith) (rw (lb, la) z)
      ∙ ap (splice s at) (rw (zeros_add (row_offset n) (gap n), sum) (zeros_add nets_offset nets))

-- ---- where there is no row

-- past some, and so past more
rows_past_more : (s : List ℕ) (at i n : ℕ) → i ≤ n → n ≤ most_rows → NoRowsPast s at i → NoRowsPast s at n
unfolding NoRowsPast
rows_past_more s at i n l h z =
    let j : ℕ = row_width * n - row_width * i in
    let e : at + row_offset i + j ≡ at + row_offset n = omega arith in
    ap (λ (k : ℕ). take (gap n) (drop k s)) (sym e)
    ∙ sym (inner (gap n) j (gap i) (at + row_offset i) s (omega arith))
    ∙ ap (λ (l : List ℕ). take (gap n) (drop j l)) z
    ∙ zeros_piece j (gap n) (gap i) (omega arith)

-- in a part, past its own
part_rest : (p : Part) → PartFits p → take (gap (length p.rows)) (drop (row_offset (length p.rows)) (part_bytes most_hours p)) ≡ zeros (gap (length p.rows))
unfolding part_bytes part_sections
part_rest p f =
    let n : ℕ = length p.rows in
    let rf = f.rows_fit in
    read_part (part_widths most_hours) (part_sections most_hours p) (wide_part most_hours p f) 2 (row_width * n) (gap n) (row_offset n) (omega arith) (omega arith) refl
    ∙ ap (take (gap n)) (slots_rest row_width most_rows row_bytes length_row p.rows)
    ∙ take_all (gap n) (zeros (gap n)) (omega (arith, length-zeros (gap n)))

-- without a batch the saved part is zero
saved_none : (b : Book) → Fits b → b.saved ≡ None → (j m : ℕ) → j + m ≤ size
    → take m (drop (saved_offset most_hours + j) (image most_hours book_size b)) ≡ zeros m
unfolding image sections sections_with saved_bytes
saved_none b f e j m l =
    read_part (book_widths most_hours book_size) (sections most_hours book_size b) (wide_book most_hours book_size b f) 6 j m (saved_offset most_hours + j) (omega arith) l (omega arith)
    ∙ rw e (zeros_piece j m size l)

module _ (s : List ℕ) (h : is_sound s ≡ true) where
  pub present_rows_end : (n : ℕ) → n ≡ length (book_in s).part.rows → NoRowsPast s present_offset n
  unfolding NoRowsPast
  present_rows_end n e =
      let b : Book = book_in s in
      ap (λ (t : List ℕ). take (gap n) (drop (present_offset + row_offset n) t)) (book_image s h)
      ∙ present_read most_hours book_size b (book_fits s h) (row_offset n) (gap n) (present_offset + row_offset n) (omega (arith, row_count_high s h)) refl
      ∙ rw e (part_rest b.part (book_fits s h).part_fits)

  none_saved_rows : (book_in s).saved ≡ None → (n : ℕ) → n ≤ most_rows → NoRowsPast s (saved_offset most_hours) n
  unfolding NoRowsPast
  none_saved_rows o n few =
      ap (λ (t : List ℕ). take (gap n) (drop (saved_offset most_hours + row_offset n) t)) (book_image s h)
      ∙ saved_none (book_in s) (book_fits s h) o (row_offset n) (gap n) (omega arith)

  saved_end : (p : Part) → (book_in s).saved ≡ Some p → PartFits p → NoRowsPast s (saved_offset most_hours) (length p.rows)
  unfolding NoRowsPast
  saved_end p e f =
      let i : ℕ = length p.rows in
      let rf = f.rows_fit in
      ap (λ (t : List ℕ). take (gap i) (drop (saved_offset most_hours + row_offset i) t)) (book_image s h)
      ∙ saved_read most_hours book_size (book_in s) (book_fits s h) p (row_offset i) (gap i) (saved_offset most_hours + row_offset i) e (omega arith) refl
      ∙ part_rest p f

  module _ (batch : is_some (book_in s).saved ≡ true) where
    saved_past : (n : ℕ) → length (restored (book_in s).saved (book_in s).part).rows ≤ n → n ≤ most_rows → NoRowsPast s (saved_offset most_hours) n
    saved_past n low few =
        let (p, e) = some_of (book_in s).saved batch in
        let f : PartFits p = rw e at (book_fits s h).saved_fits in
        rows_past_more s (saved_offset most_hours) (length p.rows) n (rw e at low) few (saved_end p e f)

    pub saved_rows_end : (n : ℕ) → n ≡ length (restored (book_in s).saved (book_in s).part).rows → (n ≤ most_rows) × NoRowsPast s (saved_offset most_hours) n
    saved_rows_end n e =
        let few : n ≤ most_rows = omega (arith, saved_rows_fewer s h batch, row_count_high s h) in
        (few, saved_past n (omega arith) few)

    -- the present rows are no fewer
    pub saved_past_present : (n : ℕ) → n ≡ length (book_in s).part.rows → NoRowsPast s (saved_offset most_hours) n
    saved_past_present n e = saved_past n (omega (arith, saved_rows_fewer s h batch)) (omega (arith, row_count_high s h))

  -- with a batch or without
  pub saved_past_rows : (n : ℕ) → n ≡ length (book_in s).part.rows → NoRowsPast s (saved_offset most_hours) n
  saved_past_rows n e = go (book_in s).saved refl
    where
      go : (o : Option Part) → (book_in s).saved ≡ o → NoRowsPast s (saved_offset most_hours) n
      go None f = none_saved_rows f n (omega (arith, row_count_high s h))
      go (Some p) f = saved_past_present (rw f) n e

-- a copy over the present part leaves the saved one
pub saved_room_left : (s x : List ℕ) (n : ℕ) → length s ≡ book_size → n ≤ most_rows → NoRowsPast s (saved_offset most_hours) n
    → x ≡ part_copied s (saved_offset most_hours) present_offset → NoRowsPast x (saved_offset most_hours) n
unfolding NoRowsPast
saved_room_left s x n l few z e =
    ap (λ (t : List ℕ). take (gap n) (drop (saved_offset most_hours + row_offset n) t)) e
    ∙ read_beside s present_offset (drop (saved_offset most_hours) s) size (saved_offset most_hours + row_offset n) (gap n) (omega arith)
    (omega (arith, length-drop (saved_offset most_hours) s)) (inr (omega arith))
    ∙ z
