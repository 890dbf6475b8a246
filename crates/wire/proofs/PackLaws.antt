-- Numbers, each in its width, are packed and read back, there and back, and one is read or replaced at its place.
use Rattle.std.proofs.Common.{◌≡◌, ℕ, zero, suc, ◌+◌, ◌^◌, ◌<◌, ◌≤◌, List, [], ◌∷◌, map, length, get_or, take, drop, set, sym, refl, ap, ◌∙◌, arith, length-drop, length-take-le, drop-drop}
use lib.ListN.{length-map, get_or-map}
use Rattle.wire.specs.Numbers.{number, number_at, le, Bytes, none}
use Rattle.wire.specs.Regions.{splice}
use Rattle.wire.specs.Parts.{flat, cut, start_of, Wide, pieces, pack, unpack, Small}
use Rattle.wire.proofs.NumberLaws.{length-le, number-le, le_number_wide, bytes_le, bytes_take, bytes_drop, bytes_append, number_at_small}
use Rattle.wire.proofs.RegionLaws.{splice_none, splice-append, splice_all, length_splice}
use Rattle.wire.proofs.PartLaws.{write_whole, length-flat, cut-flat, flat-cut, length_cut, cut_at, number_inner}

pub wide_pieces : (ws vs : List ℕ) → length ws ≡ length vs → Wide ws (pieces ws vs)
unfolding pieces
wide_pieces [] [] h = tt
wide_pieces [] (v ∷ vs) h = absurd (omega arith)
wide_pieces (w ∷ ws) [] h = absurd (omega arith)
wide_pieces (w ∷ ws) (v ∷ vs) h = (length-le w v, wide_pieces ws vs (omega arith))

pub length-pack : (ws vs : List ℕ) → length ws ≡ length vs → length (pack ws vs) ≡ start_of ws (length ws)
unfolding pack
length-pack ws vs h = length-flat ws (pieces ws vs) (wide_pieces ws vs h)

pub bytes_pack : (ws vs : List ℕ) → Bytes (pack ws vs)
unfolding pack flat pieces
bytes_pack [] vs = none
bytes_pack (w ∷ ws) [] = none
bytes_pack (w ∷ ws) (v ∷ vs) = bytes_append (bytes_le w v) (bytes_pack ws vs)

pub small_count : (ws vs : List ℕ) → Small ws vs → length ws ≡ length vs
small_count [] [] h = refl
small_count [] (v ∷ vs) h = absurd h
small_count (w ∷ ws) [] h = absurd h
small_count (w ∷ ws) (v ∷ vs) h = ap suc (small_count ws vs h.1)

-- one number fits its width, by its place from 0
pub small_at : (k : ℕ) (ws vs : List ℕ) → Small ws vs → get_or vs k 0 < 256 ^ get_or ws k 0
small_at k [] [] h = omega arith
small_at k [] (v ∷ vs) h = absurd h
small_at k (w ∷ ws) [] h = absurd h
small_at zero (w ∷ ws) (v ∷ vs) h = h.0
small_at (suc k) (w ∷ ws) (v ∷ vs) h = small_at k ws vs h.1

-- what was packed is read back
pub unpack-pack : (ws vs : List ℕ) → Small ws vs → unpack ws (pack ws vs) ≡ vs
unfolding pack unpack pieces
unpack-pack ws vs h = rw (cut-flat ws (pieces ws vs) (wide_pieces ws vs (small_count ws vs h))) (numbers-pieces ws vs h)
  where
    numbers-pieces : (ws vs : List ℕ) → Small ws vs → map number (pieces ws vs) ≡ vs
    numbers-pieces [] [] h = refl
    numbers-pieces [] (v ∷ vs) h = absurd h
    numbers-pieces (w ∷ ws) [] h = absurd h
    numbers-pieces (w ∷ ws) (v ∷ vs) h = rw (number-le w v h.0, numbers-pieces ws vs h.1)

-- what was read packs to the same bytes
pub pack-unpack : (ws : List ℕ) {s : List ℕ} → Bytes s → length s ≡ start_of ws (length ws) → pack ws (unpack ws s) ≡ s
unfolding pack unpack pieces cut
pack-unpack ws {s} h l = rw (pieces-cut ws s h (omega arith)) (flat-cut ws s l)
  where
    pieces-cut : (ws s : List ℕ) → Bytes s → start_of ws (length ws) ≤ length s → pieces ws (map number (cut ws s)) ≡ cut ws s
    pieces-cut [] s h l = refl
    pieces-cut (w ∷ ws) s h l =
        rw (le_number_wide (bytes_take w h) w (length-take-le w s (omega arith)), pieces-cut ws (drop w s) (bytes_drop w h) (omega (arith, length-drop w s)))

pub length-unpack : (ws s : List ℕ) → length (unpack ws s) ≡ length ws
unfolding unpack
length-unpack ws s = length-map (cut ws s) number ∙ length_cut ws s

-- number k is the number at its place
pub unpack_at : (ws s : List ℕ) (k : ℕ) → get_or (unpack ws s) k 0 ≡ number_at s (start_of ws k) (get_or ws k 0)
unfolding unpack number_at number
unpack_at ws s k = get_or-map number (cut ws s) k [] ∙ ap number (cut_at ws s k)

-- numbers side by side from a place on, each in its width
abbrev pub numbers_at : List ℕ → ℕ → List ℕ → List ℕ
numbers_at s at [] = []
numbers_at s at (w ∷ ws) = number_at s at w ∷ numbers_at s (at + w) ws

unpack_from : (ws s : List ℕ) (at : ℕ) → unpack ws (drop at s) ≡ numbers_at s at ws
unfolding unpack cut number_at
unpack_from [] s at = refl
unpack_from (w ∷ ws) s at = rw (drop-drop w at s, unpack_from ws s (at + w))

-- numbers that were read at their places pack to the same bytes
pub pack-numbers : (ws : List ℕ) {s : List ℕ} → Bytes s → length s ≡ start_of ws (length ws) → pack ws (numbers_at s 0 ws) ≡ s
pack-numbers ws {s} h l = ap (pack ws) (sym (unpack_from ws s 0)) ∙ pack-unpack ws h l

-- numbers put side by side from a place on, each in its width
abbrev pub put_all : List ℕ → ℕ → List ℕ → List ℕ → List ℕ
put_all s at [] vs = s
put_all s at (w ∷ ws) [] = s
put_all s at (w ∷ ws) (v ∷ vs) = put_all (splice s at (le w v)) (at + w) ws vs

put_region : (ws vs s : List ℕ) (at : ℕ) → length ws ≡ length vs → at + start_of ws (length ws) ≤ length s
    → put_all s at ws vs ≡ splice s at (pack ws vs)
unfolding pack flat pieces
put_region [] [] s at n h = sym (splice_none s at)
put_region [] (v ∷ vs) s at n h = absurd (omega arith)
put_region (w ∷ ws) [] s at n h = absurd (omega arith)
put_region (w ∷ ws) (v ∷ vs) s at n h =
    let l : length (le w v) ≡ w = length-le w v in
    put_region ws vs (splice s at (le w v)) (at + w) (omega arith) (omega (arith, length_splice s at (le w v) (omega arith)))
    ∙ ap (λ (k : ℕ). splice (splice s at (le w v)) (at + k) (pack ws vs)) (sym l)
    ∙ splice-append s at (le w v) (pack ws vs) (omega arith)

-- numbers put one after the other over as many bytes are the packed ones
pub put_pack : (ws vs s : List ℕ) {t : List ℕ} → length ws ≡ length vs → length s ≡ start_of ws (length ws) → t ≡ put_all s 0 ws vs → t ≡ pack ws vs
put_pack ws vs s n h e =
    e ∙ put_region ws vs s 0 n (omega arith) ∙ splice_all s (pack ws vs) (length-pack ws vs n ∙ sym h)

-- number k of bytes that stand in others
pub unpack_inner : (ws s : List ℕ) (k m at : ℕ) → start_of ws k + get_or ws k 0 ≤ m
    → get_or (unpack ws (take m (drop at s))) k 0 ≡ number_at s (at + start_of ws k) (get_or ws k 0)
unpack_inner ws s k m at h = unpack_at ws (take m (drop at s)) k ∙ number_inner (get_or ws k 0) (start_of ws k) m at s h

pub number_in_pack : (ws vs : List ℕ) (k : ℕ) → Small ws vs → number_at (pack ws vs) (start_of ws k) (get_or ws k 0) ≡ get_or vs k 0
number_in_pack ws vs k h = sym (unpack_at ws (pack ws vs) k) ∙ ap (λ (l : List ℕ). get_or l k 0) (unpack-pack ws vs h)

pub small_unpack : (ws : List ℕ) {s : List ℕ} → Bytes s → Small ws (unpack ws s)
unfolding unpack cut number_at
small_unpack [] h = tt
small_unpack (w ∷ ws) h = (number_at_small h 0 w, small_unpack ws (bytes_drop w h))

-- one number replaced
pub write-number : (ws vs : List ℕ) (k at v : ℕ) → length ws ≡ length vs → k < length ws → at ≡ start_of ws k
    → splice (pack ws vs) at (le (get_or ws k 0) v) ≡ pack ws (set vs k v)
unfolding pack pieces
write-number ws vs k at v n h e =
    write_whole ws (pieces ws vs) (wide_pieces ws vs n) k at (le (get_or ws k 0) v) h (length-le (get_or ws k 0) v) e
    ∙ ap flat (pieces-set ws vs k v n)
  where
    pieces-set : (ws vs : List ℕ) (k v : ℕ) → length ws ≡ length vs → set (pieces ws vs) k (le (get_or ws k 0) v) ≡ pieces ws (set vs k v)
    pieces-set [] vs k v n = refl
    pieces-set (w ∷ ws) [] k v n = absurd (omega arith)
    pieces-set (w ∷ ws) (x ∷ vs) zero v n = refl
    pieces-set (w ∷ ws) (x ∷ vs) (suc k) v n = ap (λ (l : List (List ℕ)). le w x ∷ l) (pieces-set ws vs k v (omega arith))
