-- Bytes made of parts: parts of fixed width side by side, numbers each in its width, equal cells of which the unused are zero, and a
-- loop over such cells. Numbers and replaced regions are those of Numbers and Regions.
use Rattle.std.specs.Prelude.{◌≡◌, ℕ, zero, suc, ◌+◌, ◌-◌, ◌^◌, ◌<◌, List, [], ◌∷◌, ◌++◌, map, length, take, drop, replicate}
use Rattle.wire.specs.Numbers.{number, le}
use Rattle.wire.specs.Regions.{splice}

-- n zero bytes
unfoldable pub zeros : ℕ → List ℕ
zeros n = replicate n 0

-- bytes, and zeros up to n
unfoldable pub padded : ℕ → List ℕ → List ℕ
padded n s = s ++ zeros (n - length s)

-- ---- parts

-- parts side by side
unfoldable pub flat : List (List ℕ) → List ℕ
flat [] = []
flat (x ∷ xs) = x ++ flat xs

-- bytes cut into parts of these widths
unfoldable pub cut : List ℕ → List ℕ → List (List ℕ)
cut [] s = []
cut (w ∷ ws) s = take w s ∷ cut ws (drop w s)

-- where part k begins: the sum of the first k widths
abbrev pub start_of : List ℕ → ℕ → ℕ
start_of ws zero = 0
start_of [] (suc k) = 0
start_of (w ∷ ws) (suc k) = w + start_of ws k

-- the parts have these widths
abbrev pub Wide : List ℕ → List (List ℕ) → Type 0
Wide [] [] = Unit {0}
Wide [] (x ∷ xs) = ⊥
Wide (w ∷ ws) [] = ⊥
Wide (w ∷ ws) (x ∷ xs) = (length x ≡ w) × Wide ws xs

-- ---- numbers, each in its width

-- the numbers in bytes, each in its width
unfoldable pub pieces : List ℕ → List ℕ → List (List ℕ)
pieces [] vs = []
pieces (w ∷ ws) [] = []
pieces (w ∷ ws) (v ∷ vs) = le w v ∷ pieces ws vs

-- the same, side by side
unfoldable pub pack : List ℕ → List ℕ → List ℕ
pack ws vs = flat (pieces ws vs)

-- the numbers that bytes hold in these widths
unfoldable pub unpack : List ℕ → List ℕ → List ℕ
unpack ws s = map number (cut ws s)

-- each number fits its width
abbrev pub Small : List ℕ → List ℕ → Type 0
Small [] [] = Unit {0}
Small [] (v ∷ vs) = ⊥
Small (w ∷ ws) [] = ⊥
Small (w ∷ ws) (v ∷ vs) = (v < 256 ^ w) × Small ws vs

-- ---- cells of one width

module _ {A : Type 0} where
  -- n cells of w bytes: one for each element, and zeros in those not used
  unfoldable pub cells : ℕ → ℕ → (A → List ℕ) → List A → List (List ℕ)
  cells w n enc xs = map enc xs ++ replicate (n - length xs) (zeros w)

  -- the same, side by side
  unfoldable pub slots : ℕ → ℕ → (A → List ℕ) → List A → List ℕ
  slots w n enc xs = flat (cells w n enc xs)

-- the first n cells of w bytes
unfoldable pub chunks : ℕ → ℕ → List ℕ → List (List ℕ)
chunks w zero s = []
chunks w (suc n) s = take w s ∷ chunks w n (drop w s)

-- ---- a loop over cells

-- f put to each of the n cells of w bytes from `at` on
unfoldable pub sweep : (List ℕ → List ℕ) → ℕ → List ℕ → ℕ → ℕ → List ℕ
sweep f w s at zero = s
sweep f w s at (suc n) = sweep f w (splice s at (f (take w (drop at s)))) (at + w) n

-- f put to n elements, the first of which has i before it
unfoldable pub over : {A : Type 0} → (A → A) → ℕ → ℕ → List A → List A
over f i zero xs = xs
over f i (suc n) [] = []
over f zero (suc n) (x ∷ xs) = f x ∷ over f zero n xs
over f (suc i) (suc n) (x ∷ xs) = x ∷ over f i (suc n) xs
