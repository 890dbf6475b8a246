-- An outcome's one number taken apart gives the three numbers back.
use Prim.Native.Nat.{ℕ, ◌+◌, ◌*◌, ◌/◌, ◌%◌, ◌<◌}
use mathlib.Core.Path.{◌≡◌, ap, ◌∙◌}
use native.Mathlib.Omega.{arith}
use mathlib.Core.List.{List}
use Rattle.rules.specs.Verdicts.{Numbers, ReadOut, numbers, Verdict}
use Rattle.rules.specs.Calls.{Answer, Gives}
use Rattle.abi.specs.Packing.{packed, unpacked, Packs, GivesPacked}
use Rattle.abi.specs.Lending.{lent_numbers, lent_into, Lends}

pub apart : (number first second : ℕ) → number < 256 → first < 65_536 → second < 65_536
    → ◌≡◌ {A = Numbers} (unpacked (packed (number, first, second))) (number, first, second)
unfolding packed unpacked
apart number first second a b c =
    let p : ℕ = number + 256 * (first + 65_536 * second) in
    let e : p % 256 ≡ number = omega arith in
    let f : p / 256 ≡ first + 65_536 * second = omega arith in
    let g : (first + 65_536 * second) % 65_536 ≡ first = omega arith in
    let h : (first + 65_536 * second) / 65_536 ≡ second = omega arith in
    let i : second % 65_536 ≡ second = omega arith in
    rw (e, f, g, h, i)

-- the sum that the code makes of them is their one number
pub packs : (number first second : ℕ) (x : Numbers) → number < 256 → first < 65_536 → second < 65_536 → ◌≡◌ {A = Numbers} (number, first, second) x
    → Packs x (number + 256 * (first + 65_536 * second))
unfolding packed
packs number first second x a b c e = record { one_number = ap packed e; says_again = apart number first second a b c ∙ e }

-- an answer whose outcome is packed
pub given-packed : (a : Answer (List ℕ)) (o : Verdict) (r : ℕ) (book results balances : List ℕ) → Gives a o book results balances → Packs (numbers o) r
    → GivesPacked a r book results balances
given-packed a o r book results balances g p =
    record {
      outcome_packed = rw g.outcome_given at p;
      book_left = g.book_left;
      results_left = g.results_left;
      balances_left = g.balances_left;
    }

-- a reading that is put into a buffer, with its outcome packed
pub lends_packed : {A : Type 0} (say : A → List ℕ) (x : ReadOut A) (buffer : List ℕ) (o : Verdict) (r : ℕ) (left : List ℕ)
    → numbers o ≡ lent_numbers say x buffer → left ≡ lent_into say x buffer → Packs (numbers o) r → Lends say x buffer r left
lends_packed say x buffer o r left e l p = record { numbers_packed = rw e at p; buffer_left = l }
