-- Numbers and their bytes, there and back, at every width.
use Rattle.std.proofs.Common.{◌≡◌, ℕ, zero, suc, ◌+◌, ◌-◌, ◌*◌, ◌/◌, ◌%◌, ◌^◌, ◌<◌, ◌≤◌, Bool, true, false, cond, ltb, List, [], ◌∷◌, ◌++◌, length, get_or, take, drop, ℤ, pos, negsuc, neg_ℤ, nat_abs, sym, refl, ap, ◌∙◌, lt_of_lt_of_le, add-zero, mod-lt, mod-eq_of_lt, mul_assoc, suc-mul, zero-add, mul-add, arith, length-drop, length-take, length-take-le, take_all, w8, Fits, ltb-false, ltb-true, le-ltb, lt-ltb}
use Rattle.std.specs.Int.{bytes_low_first, byte_worth, sum_through}
use native.Mathlib.Nat.{div-one, div-div-eq-div-mul, mod-one, mod_self, mod-add-div, add-mul-mod_self_left, pow-suc, pow-succ', one-le-pow, pow-le-pow_right}
use lib.Seq.{take-nil}
use lib.IntN.{sub_ℕ}
use Rattle.wire.specs.Numbers.{number, number_at, le, signed, minus_word, figure_in, Bytes, none, more}

-- ---- bytes

pub bytes_take : (n : ℕ) {s : List ℕ} → Bytes s → Bytes (take n s)
bytes_take zero h = none
bytes_take (suc n) none = none
bytes_take (suc n) (more b h) = more b (bytes_take n h)

pub bytes_drop : (n : ℕ) {s : List ℕ} → Bytes s → Bytes (drop n s)
bytes_drop zero h = h
bytes_drop (suc n) none = none
bytes_drop (suc n) (more b h) = bytes_drop n h

pub bytes_append : {s t : List ℕ} → Bytes s → Bytes t → Bytes (s ++ t)
bytes_append none k = k
bytes_append (more b h) k = more b (bytes_append h k)

pub bytes_at : {s : List ℕ} → Bytes s → (k : ℕ) → get_or s k 0 < 256
bytes_at none k = omega arith
bytes_at (more b h) zero = b
bytes_at (more b h) (suc k) = bytes_at h k

pub bytes_all : (s : List ℕ) → ((k : ℕ) → get_or s k 0 < 256) → Bytes s
bytes_all [] h = none
bytes_all (b ∷ bs) h = more (h 0) (bytes_all bs (λ k. h (suc k)))

-- what the code knows of a slice of bytes
pub bytes_known : (s : List ℕ) → ((k : ℕ) → Fits w8 (get_or s k 0)) → Bytes s
bytes_known s h = bytes_all s (λ k. (h k).fits)

pub bytes_le : (w v : ℕ) → Bytes (le w v)
unfolding le
bytes_le zero v = none
bytes_le (suc w) v = more {b = v % 256} (omega arith) (bytes_le w (v / 256))

-- ---- there and back

pub length-le : (w v : ℕ) → length (le w v) ≡ w
unfolding le
length-le zero v = refl
length-le (suc w) v = ap suc (length-le w (v / 256))

-- a byte is its own number
pub le_byte : (v : ℕ) → v < 256 → le 1 v ≡ v ∷ []
unfolding le
le_byte v h = let e : v % 256 ≡ v = omega arith in rw e

pub number_small : {s : List ℕ} → Bytes s → number s < 256 ^ length s
unfolding number
number_small none = omega arith
number_small (more {b} {bs} l h) =
    let ih = number_small h in
    let e : 256 ^ length (b ∷ bs) ≡ 256 * 256 ^ length bs = pow-succ' 256 (length bs) in
    omega arith

pub le-number : {s : List ℕ} → Bytes s → le (length s) (number s) ≡ s
unfolding number le
le-number none = refl
le-number (more {b} {bs} l h) =
    let a : (b + 256 * number bs) % 256 ≡ b = omega arith in
    let d : (b + 256 * number bs) / 256 ≡ number bs = omega arith in
    rw (a, d, le-number h)

pub le_number_wide : {s : List ℕ} → Bytes s → (w : ℕ) → length s ≡ w → le w (number s) ≡ s
le_number_wide {s} h w e = ap (λ (n : ℕ). le n (number s)) (sym e) ∙ le-number h

-- what is more than fits goes round
pub number_le_rest : (w v : ℕ) → number (le w v) ≡ v % 256 ^ w
unfolding number le
number_le_rest zero v = sym (mod-one v)
number_le_rest (suc w) v =
    let m : ℕ = 256 ^ w in
    let r : ℕ = v / 256 % m in
    let q : ℕ = v / 256 / m in
    let e : number (le w (v / 256)) ≡ r = number_le_rest w (v / 256) in
    let l : r < m = mod-lt (v / 256) (one-le-pow w 256 (omega arith)) in
    let split : r + m * q ≡ v / 256 = mod-add-div (v / 256) m in
    let whole : v ≡ v % 256 + 256 * r + 256 * m * q = omega (arith, mul_assoc 256 m q) in
    rw e (sym (ap (λ (x : ℕ). x % (256 * m)) whole
    ∙ add-mul-mod_self_left (v % 256 + 256 * r) (256 * m) q
    ∙ mod-eq_of_lt (omega arith)) ∙ ap (λ (x : ℕ). v % x) (sym (pow-succ' 256 w)))

pub number-le : (w v : ℕ) → v < 256 ^ w → number (le w v) ≡ v
number-le w v h = number_le_rest w v ∙ mod-eq_of_lt h

-- what has the same remainder has the same bytes
pub le_same : (w x y : ℕ) → x % 256 ^ w ≡ y % 256 ^ w → le w x ≡ le w y
le_same w x y e = sym (back x) ∙ ap (le w) (number_le_rest w x ∙ e ∙ sym (number_le_rest w y)) ∙ back y
  where
    back : (v : ℕ) → le w (number (le w v)) ≡ le w v
    back v = le_number_wide (bytes_le w v) w (length-le w v)

-- ---- numbers at a place

pub number_at_zero : (s : List ℕ) (at : ℕ) → number_at s at 0 ≡ 0
unfolding number_at number
number_at_zero s at = refl

pub number_at-step : (s : List ℕ) (at w : ℕ) → number_at s at (suc w) ≡ get_or s at 0 + 256 * number_at s (suc at) w
unfolding number_at number
number_at-step [] zero w = rw (take-nil w)
number_at-step [] (suc at) w = rw (take-nil w)
number_at-step (b ∷ bs) zero w = refl
number_at-step (b ∷ bs) (suc at) w = number_at-step bs at w

pub number_at_one : (s : List ℕ) (at : ℕ) → number_at s at 1 ≡ get_or s at 0
number_at_one s at = number_at-step s at 0 ∙ omega (arith, number_at_zero s (suc at))

-- a number is its low part and, past that, its high part
pub number_at_add : (s : List ℕ) (at m n : ℕ) → number_at s at (m + n) ≡ number_at s at m + 256 ^ m * number_at s (at + m) n
number_at_add s at zero n = rw (number_at_zero, add-zero, zero-add n) (omega arith)
number_at_add s at (suc m) n =
    let e : suc m + n ≡ suc (m + n) = omega arith in
    let f : at + suc m ≡ suc at + m = omega arith in
    rw (e, f, number_at-step s at (m + n), number_at-step s at m, number_at_add s (suc at) m n, pow-succ' 256 m) (omega (arith, mul_assoc 256 (256 ^ m) (number_at s (suc at + m) n)))

-- a number fits its width, and every greater one
pub number_at_below : {s : List ℕ} → Bytes s → (at w n : ℕ) → w ≤ n → number_at s at w < 256 ^ n
unfolding number_at
number_at_below {s} h at w n f =
    let x : List ℕ = take w (drop at s) in
    let l : length x ≤ n = rw (length-take w (drop at s)) (omega arith) in
    lt_of_lt_of_le (number_small (bytes_take w (bytes_drop at h))) (pow-le-pow_right (omega arith) l)

pub number_at_small : {s : List ℕ} → Bytes s → (at w : ℕ) → number_at s at w < 256 ^ w
number_at_small h at w = number_at_below h at w w (omega arith)

-- the bytes of the number at a place are those that stand there
pub le-number_at : {s : List ℕ} → Bytes s → (at w : ℕ) → at + w ≤ length s → le w (number_at s at w) ≡ take w (drop at s)
unfolding number_at
le-number_at {s} h at w f =
    le_number_wide (bytes_take w (bytes_drop at h)) w (length-take-le w (drop at s) (omega (arith, length-drop at s)))

-- ---- the library's bytes

-- k bytes of a number, from byte i upward
library_bytes : (i k v : ℕ) → bytes_low_first i k v ≡ le k (v / 256 ^ i)
unfolding le
library_bytes i zero v = refl
library_bytes zero (suc k) v =
    let e : v / 256 ^ 0 ≡ v = div-one v in
    rw e (ap (λ (bs : List ℕ). v % 256 ∷ bs) (library_bytes 1 k v))
library_bytes (suc i) (suc k) v =
    let e : v / 256 ^ suc i / 256 ≡ v / 256 ^ suc (suc i) = div-div-eq-div-mul v (256 ^ suc i) 256 ∙ ap (λ n. v / n) (sym (pow-suc 256 (suc i))) in
    rw e (ap (λ (bs : List ℕ). v / 256 ^ suc i % 256 ∷ bs) (library_bytes (suc (suc i)) k v))

-- the bytes that a number becomes
pub to_bytes : (w v : ℕ) → bytes_low_first 0 w v ≡ le w v
to_bytes w v = library_bytes 0 w v ∙ ap (le w) (div-one v)

-- bytes are their number's, where it has no more of them
pub number_whole : (s : List ℕ) (w : ℕ) → length s ≡ w → number_at s 0 w ≡ number s
unfolding number_at
number_whole s w e = ap number (take_all w s (omega arith))

-- what the library adds up, of the first of the bytes
sum_bytes : (s : List ℕ) (n : ℕ) → sum_through (λ i. byte_worth i (get_or s i 0)) n ≡ number_at s 0 (suc n)
sum_bytes s zero = sym (number_at_one s 0)
sum_bytes s (suc n) =
    let e : suc (suc n) ≡ suc n + 1 = omega arith in
    let high : number_at s (0 + suc n) 1 ≡ get_or s (suc n) 0 = rw (zero-add (suc n)) (number_at_one s (suc n)) in
    rw (e, number_at_add s 0 (suc n) 1, high) (omega (arith, sum_bytes s n))

-- the number that bytes make
pub from_bytes : (s : List ℕ) (n : ℕ) → length s ≡ suc n → sum_through (λ i. byte_worth i (get_or s i 0)) n ≡ number s
from_bytes s n e = sum_bytes s n ∙ number_whole s (suc n) e

-- ---- signed numbers

pub length-signed : (w : ℕ) (z : ℤ) → length (signed w z) ≡ w
unfolding signed
length-signed w (pos n) = length-le w n
length-signed w (negsuc n) = length-le w _

-- multiples of 256^w change no byte
pub le_wraps : (w x y m n : ℕ) → x + 256 ^ w * m ≡ y + 256 ^ w * n → le w x ≡ le w y
le_wraps w x y m n e =
    le_same w x y (sym (add-mul-mod_self_left x (256 ^ w) m) ∙ ap (λ (v : ℕ). v % 256 ^ w) e ∙ add-mul-mod_self_left y (256 ^ w) n)

-- all ones and one are 256^w
pub ones : (w n : ℕ) → (256 ^ w - 1) * n + n ≡ 256 ^ w * n
ones w n =
    let h : 1 ≤ 256 ^ w = one-le-pow w 256 (omega arith) in
    let e : 256 ^ w ≡ suc (256 ^ w - 1) = omega arith in
    sym (ap (λ (k : ℕ). k * n) e ∙ suc-mul (256 ^ w - 1) n)

-- a difference is what is added, and all ones for each that is taken away
pub signed_sub : (w b s : ℕ) → signed w (sub_ℕ b s) ≡ le w (b + (256 ^ w - 1) * s)
unfolding signed
signed_sub w b s = go (ltb b s) refl
  where
    go : (t : Bool) → ltb b s ≡ t → signed w (cond t (negsuc (s - suc b)) (pos (b - s))) ≡ le w (b + (256 ^ w - 1) * s)
    go true e =
        let h = ltb-true b s e in
        let k : ℕ = 256 ^ w - 1 in
        let p : s ≡ suc (s - suc b) + b = omega arith in
        let q : k * s ≡ k * suc (s - suc b) + k * b = ap (λ (x : ℕ). k * x) p ∙ mul-add k (suc (s - suc b)) b in
        le_wraps w (k * suc (s - suc b)) (b + k * s) b 0 (omega (arith, ones w b))
    go false e =
        let h = ltb-false b s e in
        le_wraps w (b - s) (b + (256 ^ w - 1) * s) s 0 (omega (arith, ones w s))

-- the same, of a word to which the second number adds up to the first, but for a multiple of 256^w
pub signed_difference : (w b s r : ℕ) → (r + s) % 256 ^ w ≡ b → le w r ≡ signed w (sub_ℕ b s)
signed_difference w b s r e =
    let m : ℕ = 256 ^ w in
    let q : ℕ = (r + s) / m in
    let split : b + m * q ≡ r + s = ap (λ (x : ℕ). x + m * q) (sym e) ∙ mod-add-div (r + s) m in
    le_wraps w r (b + (m - 1) * s) s q (omega (arith, ones w s)) ∙ sym (signed_sub w b s)

-- two's complement
pub signed_minus : (w n : ℕ) → n < 256 ^ w → signed w (negsuc n) ≡ le w (256 ^ w - suc n)
unfolding signed
signed_minus w n h =
    sym (le_wraps w (256 ^ w - suc n) ((256 ^ w - 1) * suc n) n 0 (omega (arith, ones w (suc n))))

-- minus a number, as a word, is its signed number
pub minus_signed : (w v : ℕ) → v ≤ 256 ^ w → le w (minus_word w v) ≡ signed w (neg_ℤ (pos v))
unfolding signed
minus_signed w zero h = let e : 256 ^ w - 0 ≡ 256 ^ w = omega arith in rw e (ap (le w) (mod_self (256 ^ w)))
minus_signed w (suc n) h = ap (le w) (mod-eq_of_lt (omega arith)) ∙ sym (signed_minus w n (omega arith))

plus_back : (n : ℕ) → n < 2 ^ 63 → figure_in (signed 8 (pos n)) ≡ pos n
unfolding figure_in signed
plus_back n h = rw (number-le 8 n (omega arith), lt-ltb n (2 ^ 63) h)

minus_back : (n : ℕ) → n < 2 ^ 63 → figure_in (signed 8 (negsuc n)) ≡ negsuc n
unfolding figure_in
minus_back n h =
    let m : ℕ = 256 ^ 8 - suc n in
    let back : number (le 8 m) ≡ m = number-le 8 m (omega arith) in
    let lacks : 2 ^ 64 - suc m ≡ n = omega arith in
    rw (signed_minus 8 n (omega arith), back, le-ltb m (2 ^ 63) (omega arith), lt-ltb m (2 ^ 64) (omega arith), lacks)

-- a signed number less than 2^63 from zero reads back from its 8 bytes
pub figure_back : (z : ℤ) → nat_abs z < 2 ^ 63 → figure_in (signed 8 z) ≡ z
figure_back (pos n) h = plus_back n h
figure_back (negsuc n) h = minus_back n (omega arith)
