-- Readings put into a lent buffer: its first bytes are filled and no others changed. 10 where it is shorter than what is written; a refusal
-- changes no byte.
use Rattle.std.specs.Prelude.{ℕ, ◌≡◌, List, [], ◌∷◌, length, ltb, ℤ, Option, None, Some}
use Rattle.wire.specs.Numbers.{le, signed}
use Rattle.units.specs.declared.MilliCents.{MilliCents}
use Rattle.rules.specs.declared.Refusal.{Refusal}
use Rattle.rules.specs.declared.Refusal.TheVariants.{BufferShort}
use Rattle.rules.specs.Verdicts.{Numbers, ReadOut, numbers, first_to_apply, outcome_of, ◌⇒◌, Verdict, Reading}
use Rattle.rules.specs.Requests.{filled, unless_refused}
use Rattle.rules.specs.Readings.{exposure_read_out}
use Rattle.abi.specs.Packing.{Packs}

-- ---- bytes put into a buffer

unfoldable pub lent_refusal : List ℕ → List ℕ → Option Refusal
lent_refusal said buffer = first_to_apply ((ltb (length buffer) (length said) ⇒ BufferShort) ∷ [])

unfoldable pub lent_outcome : List ℕ → List ℕ → Verdict
lent_outcome said buffer = outcome_of (lent_refusal said buffer) 0

unfoldable pub lent_bytes : List ℕ → List ℕ → List ℕ
lent_bytes said buffer = unless_refused (lent_refusal said buffer) buffer (filled said buffer)

-- ---- a reading whose value is written to a buffer, in bytes that `say` gives: its own refusal, or that of the buffer

abbrev pub lent_numbers : {A : Type 0} → (A → List ℕ) → ReadOut A → List ℕ → Numbers
lent_numbers say (n, None) buffer = n
lent_numbers say (n, Some x) buffer = numbers (lent_outcome (say x) buffer)

abbrev pub lent_into : {A : Type 0} → (A → List ℕ) → ReadOut A → List ℕ → List ℕ
lent_into say (n, None) buffer = buffer
lent_into say (n, Some x) buffer = lent_bytes (say x) buffer

-- a reading that is given so: its numbers packed, and what it leaves of the buffer
pub record Lends {A : Type 0} (say : A → List ℕ) (x : ReadOut A) (buffer : List ℕ) (r : ℕ) (left : List ℕ) : Type 0 where
  pub numbers_packed : Packs (lent_numbers say x buffer) r
  pub buffer_left : left ≡ lent_into say x buffer

-- a net position: its figure in 8 bytes, signed
abbrev pub net_bytes : ℤ → List ℕ
net_bytes z = signed 8 z

-- an exposure: 8 bytes
abbrev pub exposure_bytes : MilliCents → List ℕ
exposure_bytes m = le 8 m.0

-- an exposure that was read, of the day or of an hour, put into a buffer: its numbers packed, and what it leaves of the buffer
abbrev pub LendsExposure : Reading MilliCents → List ℕ → ℕ → List ℕ → Type 0
LendsExposure x buffer r left = Lends exposure_bytes (exposure_read_out x) buffer r left
