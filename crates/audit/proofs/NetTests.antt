-- The nets in bytes are those of the rows exactly where each stored word passes a test without signs: the word and what was sold make
-- what was bought, but for multiples of 2^32.
use Prim.Native.Nat.{ℕ, suc, ◌+◌, ◌-◌, ◌*◌, ◌%◌, ◌^◌, ◌≤◌, ◌<◌}
use mathlib.Core.Path.{◌≡◌, sym, ap, ◌∙◌}
use mathlib.Core.Logic.{◌↔◌}
use mathlib.Core.List.{List, map}
use mathlib.Core.Bool.{true}
use native.Mathlib.Nat.{mul-le-mul_left}
use native.Mathlib.Omega.{arith}
use lib.ListN.{length, take, drop, length-map, length-drop}
use lib.Seq.{length-take-le, take_all}
use lib.Dec.{eqb}
use lib.IntN.{sub_ℕ}
use borrow.Author.Tests.{eqb-true, eq-eqb}
use Rattle.wire.specs.Numbers.{number, number_at, le, signed, Bytes}
use Rattle.wire.specs.Parts.{flat}
use Rattle.wire.proofs.NumberLaws.{length-signed, number_le_rest, le_same, le_number_wide, number_small, signed_sub, bytes_take, bytes_drop}
use Rattle.wire.proofs.PartLaws.{inner}
use Rattle.wire.proofs.SlotLaws.{uniform_map, read_cell, flat_by_cells}
use Rattle.rules.specs.declared.Row.{Row}
use Rattle.rules.specs.Basics.{up_to, joined}
use Rattle.rules.specs.Limits.{most_accounts}
use Rattle.rules.specs.Registration.{bought, sold, net_of, figure}
use Rattle.rules.proofs.Basics.Searches.{counting-length}
use Rattle.image.specs.Layout.{account_width, net_offset, nets_offset, net_width}
use Rattle.image.specs.Image.{account_nets, nets_bytes}
use Rattle.image.proofs.Sound.Soundness.{every_up_to, up_to_every}
use Rattle.image.proofs.Writing.Sizes.{length-account}
use Rattle.image.proofs.Writing.Nets.{up_to_at}
use Rattle.audit.specs.Exact.{net_matches, nets_match}

-- ---- one net

ahead : (b s v : ℕ) → (b + 4294967295 * s) % 4294967296 ≡ v → (v + s) % 4294967296 ≡ b % 4294967296
ahead b s v e = omega arith

behind : (b s v : ℕ) → v < 4294967296 → (v + s) % 4294967296 ≡ b % 4294967296 → (b + 4294967295 * s) % 4294967296 ≡ v % 4294967296
behind b s v l e = omega arith

-- a word of 4 bytes is bought less sold
pub net_test : (b s : ℕ) (c : List ℕ) → Bytes c → length c ≡ net_width
    → (signed net_width (sub_ℕ b s) ≡ c) ↔ (eqb ((number c + s) % 256 ^ net_width) (b % 256 ^ net_width) ≡ true)
net_test b s c h l =
    let w : ℕ = b + 4294967295 * s in
    let e : le 4 (number c) ≡ c = le_number_wide h 4 l in
    let small : number c < 256 ^ length c = number_small h in
    let low : number c < 4294967296 = rw l at small in (
      (λ (t : signed net_width (sub_ℕ b s) ≡ c). eq-eqb _ _ (ahead b s (number c) (sym (number_le_rest 4 w) ∙ ap number (sym (signed_sub net_width b s) ∙ t)))),
      (λ (t : eqb ((number c + s) % 256 ^ net_width) (b % 256 ^ net_width) ≡ true). signed_sub net_width b s ∙ le_same 4 w (number c) (behind b s (number c) low (eqb-true _ _ t)) ∙ e),
    )

-- ---- all nets

-- cells counted from 1 are bytes where each is what stands at its place
module _ (w m : ℕ) (f : ℕ → List ℕ) (wide : (k : ℕ) → length (f k) ≡ w) (c : List ℕ) (l : length c ≡ w * m) where
  cells_at : flat (map f (up_to m)) ≡ c → (k : ℕ) → 1 ≤ k → k ≤ m → f k ≡ take w (drop (w * (k - 1)) c)
  cells_at e k low high =
      let n : length (map f (up_to m)) ≡ m = length-map (up_to m) f ∙ counting-length m 1 in
      let i : suc (k - 1) ≡ k = omega arith in
      let r = read_cell w (map f (up_to m)) (uniform_map w f (up_to m) wide) (k - 1) 0 w (w * (k - 1)) (omega arith) (omega arith) (omega arith) in
      sym (ap (λ (x : List ℕ). take w (drop (w * (k - 1)) x)) (sym e) ∙ r ∙ rw (up_to_at f m (k - 1) (omega arith), i) (take_all w (f k) (omega (arith, wide k))))

  at_cells : ((k : ℕ) → 1 ≤ k → k ≤ m → f k ≡ take w (drop (w * (k - 1)) c)) → flat (map f (up_to m)) ≡ c
  at_cells g =
      let n : length (map f (up_to m)) ≡ m = length-map (up_to m) f ∙ counting-length m 1 in
      flat_by_cells w (map f (up_to m)) c (rw n l) (λ i h.
      let e : suc i - 1 ≡ i = omega arith in
      up_to_at f m i (omega arith) ∙ g (suc i) (omega arith) (omega arith) ∙ rw e)

module _ (top : ℕ) (rows : List Row) (s : List ℕ) (at : ℕ) (b : Bytes s) (l : at + nets_offset + most_accounts * account_width top ≤ length s) where
  abbrev stored : List ℕ
  stored = take (most_accounts * account_width top) (drop (at + nets_offset) s)

  abbrev word : ℕ → ℕ → List ℕ
  word a h = take net_width (drop (at + net_offset top a h) s)

  in_account : (a : ℕ) → 1 ≤ a → a ≤ most_accounts → account_width top * (a - 1) + account_width top ≤ most_accounts * account_width top
  in_account a low high = omega (arith, mul-le-mul_left {m = a - 1} {n = 31} (account_width top) (omega arith))

  length_nets_stored : length stored ≡ account_width top * most_accounts
  length_nets_stored = length-take-le (most_accounts * account_width top) (drop (at + nets_offset) s) (omega (arith, length-drop (at + nets_offset) s)) ∙ omega arith

  module _ (a : ℕ) (low : 1 ≤ a) (high : a ≤ most_accounts) where
    abbrev hours : List ℕ
    hours = take (account_width top) (drop (account_width top * (a - 1)) stored)

    length_hours : length hours ≡ net_width * top
    length_hours =
        let i = in_account a low high in
        let n = length_nets_stored in
        length-take-le (account_width top) (drop (account_width top * (a - 1)) stored) (omega (arith, length-drop (account_width top * (a - 1)) stored))

    word_at : (h : ℕ) → 1 ≤ h → h ≤ top → take net_width (drop (net_width * (h - 1)) hours) ≡ word a h
    word_at h hl hh =
        let i = in_account a low high in
        let p : at + nets_offset + (account_width top * (a - 1) + net_width * (h - 1)) ≡ at + net_offset top a h = omega arith in
        inner net_width (net_width * (h - 1)) (account_width top) (account_width top * (a - 1)) stored (omega arith)
        ∙ inner net_width (account_width top * (a - 1) + net_width * (h - 1)) (most_accounts * account_width top) (at + nets_offset) s (omega arith)
        ∙ rw p

  word_test : (a h : ℕ) → 1 ≤ a → a ≤ most_accounts → 1 ≤ h → h ≤ top
      → (signed net_width (figure (net_of rows a h)) ≡ word a h) ↔ (net_matches rows a h (number_at s (at + net_offset top a h) net_width) ≡ true)
  unfolding number_at
  word_test a h al ah hl hh =
      let i = in_account a al ah in
      net_test (bought rows a h) (sold rows a h) (word a h) (bytes_take 4 (bytes_drop (at + net_offset top a h) b))
      (length-take-le 4 (drop (at + net_offset top a h) s) (omega (arith, length-drop (at + net_offset top a h) s)))

  pub nets_match_lem : nets_bytes top rows ≡ stored → nets_match top rows s at ≡ true
  unfolding nets_bytes account_nets joined nets_match
  nets_match_lem e =
      up_to_every _ most_accounts (λ a al ah.
      let g = cells_at (account_width top) most_accounts (account_nets top rows) (length-account top rows) stored length_nets_stored e a al ah in
      up_to_every _ top (λ h hl hh.
      (word_test a h al ah hl hh).0
      (cells_at net_width top (λ x. signed net_width (figure (net_of rows a x))) (λ x. length-signed net_width (figure (net_of rows a x))) (hours a al ah) (length_hours a al ah) g h hl hh ∙ word_at a al ah h hl hh)))

  pub held_nets : nets_match top rows s at ≡ true → nets_bytes top rows ≡ stored
  unfolding nets_bytes account_nets joined nets_match
  held_nets t =
      at_cells (account_width top) most_accounts (account_nets top rows) (length-account top rows) stored length_nets_stored (λ a al ah.
      at_cells net_width top (λ x. signed net_width (figure (net_of rows a x))) (λ x. length-signed net_width (figure (net_of rows a x))) (hours a al ah) (length_hours a al ah) (λ h hl hh.
      (word_test a h al ah hl hh).1 (every_up_to _ top (every_up_to _ most_accounts t a al ah) h hl hh) ∙ sym (word_at a al ah h hl hh)))
