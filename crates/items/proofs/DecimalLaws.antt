-- Decimal digits: more steps change nothing, and the fewest digits that hold a number are its decimal text.
use Prim.Native.Nat.{ℕ, zero, suc, ◌+◌, ◌-◌, ◌/◌, ◌%◌, ◌^◌, ◌≤◌, ◌<◌}
use mathlib.Core.Path.{◌≡◌, refl, sym, ap, ◌∙◌}
use mathlib.Core.List.{List, [], ◌∷◌, ◌++◌}
use mathlib.Core.Bool.{Bool, true, false}
use native.Mathlib.Nat.{pow-succ', one-le-pow, pow-le-pow_right}
use native.Mathlib.Omega.{arith}
use lib.Dec.{leb, ltb}
use lib.IntN.{sub_ℕ}
use borrow.Author.Tests.{ltb-true, ltb-false, leb-true, leb-false, lt-ltb, le-ltb}
use Rattle.io.specs.Digits.{last_digits as lastDigits, IsDigitCount}
use Rattle.rules.specs.Ascii.{ascii}
use Rattle.rules.specs.Replay.{digits, decimal, signed_decimal}

-- ---- steps

digits_one : (k n : ℕ) → n < 10 → digits k n ≡ (48 + n) ∷ []
unfolding digits
digits_one zero n h = refl
digits_one (suc k) n h = rw (lt-ltb n 10 h, digits)

digits_more : (k n : ℕ) → 10 ≤ n → digits (suc k) n ≡ digits k (n / 10) ++ (48 + n % 10) ∷ []
unfolding digits
digits_more k n h = rw (le-ltb n 10 h, digits)

-- as many steps as the number are enough
pub digits_enough : (k m n : ℕ) → n ≤ k → n ≤ m → digits k n ≡ digits m n
digits_enough zero m n h g = digits_one zero n (omega arith) ∙ sym (digits_one m n (omega arith))
digits_enough (suc k) zero n h g = digits_one (suc k) n (omega arith) ∙ sym (digits_one zero n (omega arith))
digits_enough (suc k) (suc m) n h g = go (ltb n 10) refl (λ a b. digits_enough k m (n / 10) a b)
  where
    go : (t : Bool) → ltb n 10 ≡ t → (n / 10 ≤ k → n / 10 ≤ m → digits k (n / 10) ≡ digits m (n / 10)) → digits (suc k) n ≡ digits (suc m) n
    go true e same = let l = ltb-true n 10 e in digits_one (suc k) n l ∙ sym (digits_one (suc m) n l)
    go false e same =
        let l = ltb-false n 10 e in
        digits_more k n l
        ∙ ap (λ (d : List ℕ). d ++ (48 + n % 10) ∷ []) (same (omega arith) (omega arith))
        ∙ sym (digits_more m n l)

-- a number below ten is one digit, and any other its last digit behind those of a tenth
pub decimal_one : (n : ℕ) → n < 10 → decimal n ≡ (48 + n) ∷ []
unfolding decimal
decimal_one n h = digits_one n n h

pub decimal-more : (n : ℕ) → 10 ≤ n → decimal n ≡ decimal (n / 10) ++ (48 + n % 10) ∷ []
unfolding decimal
decimal-more zero h = absurd (omega arith)
decimal-more (suc n) h =
    digits_more n (suc n) h
    ∙ ap (λ (d : List ℕ). d ++ (48 + suc n % 10) ∷ []) (digits_enough n (suc n / 10) (suc n / 10) (omega arith) (omega arith))

-- ---- the digits that the code makes

last_digits : (j n : ℕ) → n < 10 ^ suc j → (0 < j → 10 ^ j ≤ n) → lastDigits 10 (suc j) n ≡ decimal n
last_digits zero n h low =
    let l : n < 10 = h in
    let e : n % 10 ≡ n = omega arith in
    rw (e, lt-ltb n 10 l) (sym (decimal_one n l))
last_digits (suc j) n h low =
    let p = one-le-pow j 10 (omega arith) in
    let q = pow-succ' 10 j in
    let r = pow-succ' 10 (suc j) in
    let l = low (omega arith) in
    let m : 10 ≤ n = omega arith in
    let d : n % 10 < 10 = omega arith in
    rw (lt-ltb (n % 10) 10 d, last_digits j (n / 10) (omega arith) (λ _. omega arith)) (sym (decimal-more n m))

-- the fewest digits that hold a number are its decimal text
pub fewest_decimal : (n k : ℕ) → IsDigitCount 10 1 n k → lastDigits 10 k n ≡ decimal n
fewest_decimal n zero h = absurd (omega (arith, h.0))
fewest_decimal n (suc j) h =
    let e : suc j - 1 ≡ j = omega arith in
    last_digits j n h.1 (λ l. rw e at (h.2 (omega arith)))

-- a number of 8 bytes takes 20 digits at most
pub fewest_places : (n k : ℕ) → n < 2 ^ 64 → IsDigitCount 10 1 n k → k ≤ 20
fewest_places n k small h = go (leb k 20) refl
  where
    go : (t : Bool) → leb k 20 ≡ t → k ≤ 20
    go true e = leb-true k 20 e
    go false e =
        let l = leb-false k 20 e in
        let more : 20 ≤ k - 1 = omega arith in
        let p : 10 ^ 20 ≤ 10 ^ (k - 1) = pow-le-pow_right (omega arith) more in
        omega (arith, h.2 (omega arith))

-- ---- signed figures

-- what was gained less what was lost, by its sign
pub figure_plus : (gained lost : ℕ) → lost ≤ gained → signed_decimal (sub_ℕ gained lost) ≡ decimal (gained - lost)
unfolding signed_decimal
figure_plus gained lost h = rw (le-ltb gained lost h)

pub figure_minus : (gained lost : ℕ) → gained < lost → signed_decimal (sub_ℕ gained lost) ≡ ascii "-" ++ decimal (lost - gained)
unfolding signed_decimal
figure_minus gained lost h =
    let e : suc (lost - suc gained) ≡ lost - gained = omega arith in
    rw (lt-ltb gained lost h, e)
