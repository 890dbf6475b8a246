-- Phases compared, by their numbers.
use Prim.Native.Nat.{ℕ}
use mathlib.Core.Path.{◌≡◌, sym, ◌∙◌}
use mathlib.Core.Bool.{Bool, true, false, not}
use native.Mathlib.Omega.{arith}
use denote.Enum.Bare.{sameb}
use Rattle.rules.specs.declared.phases.Phase.{Phase}
use Rattle.rules.specs.declared.phases.Phase.TheVariants.{Registration, Schedules, Settled}
use Rattle.rules.specs.contracts.phases.Phase.{the_type}
use Rattle.rules.specs.Books.{phase_number}

unlike : (t : Bool) → t ≡ true → t ≡ false → ⊥
unlike t e f = let z : true ≡ false = sym e ∙ f in cc

-- the phase is another
pub other_phase : (p q : Phase) {n : ℕ} {t : Bool} → phase_number p ≡ n → t ≡ not (sameb the_type p q) → t ≡ true → n ≡ phase_number q → ⊥
other_phase Registration Registration e d h k = unlike _ h d
other_phase Registration Schedules e d h k = absurd (omega (arith, e, k))
other_phase Registration Settled e d h k = absurd (omega (arith, e, k))
other_phase Schedules Registration e d h k = absurd (omega (arith, e, k))
other_phase Schedules Schedules e d h k = unlike _ h d
other_phase Schedules Settled e d h k = absurd (omega (arith, e, k))
other_phase Settled Registration e d h k = absurd (omega (arith, e, k))
other_phase Settled Schedules e d h k = absurd (omega (arith, e, k))
other_phase Settled Settled e d h k = unlike _ h d

-- it is that phase
pub same_phase : (p q : Phase) {n : ℕ} {t : Bool} → phase_number p ≡ n → t ≡ not (sameb the_type p q) → t ≡ false → n ≡ phase_number q
same_phase Registration Registration e d h = sym e
same_phase Registration Schedules e d h = absurd (unlike _ d h)
same_phase Registration Settled e d h = absurd (unlike _ d h)
same_phase Schedules Registration e d h = absurd (unlike _ d h)
same_phase Schedules Schedules e d h = sym e
same_phase Schedules Settled e d h = absurd (unlike _ d h)
same_phase Settled Registration e d h = absurd (unlike _ d h)
same_phase Settled Schedules e d h = absurd (unlike _ d h)
same_phase Settled Settled e d h = sym e
