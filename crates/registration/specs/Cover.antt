-- What covers an exposure (document 01, "Registration"): `covered_by` of the rules, at the exposure and the guarantee that a call asks about.
use Rattle.std.specs.Prelude.{ℕ, ◌-◌, Bool, List, [], ◌∷◌}
use Rattle.rules.specs.declared.Row.{Row}
use Rattle.rules.specs.Books.{Book, guarantee_at, confirmed_status}
use Rattle.rules.specs.Registration.{with_status, exposure, exposure_with, covered_by}
use Rattle.book.specs.Worth.{sale_worth}

-- it is at most what is available of the operator's guarantee in force
abbrev pub covered_in_force : Book → ℕ → ℕ → Bool
covered_in_force b exposure o = covered_by b.setup exposure (guarantee_at b.part.guarantees o).0 o

-- the operator's exposure is covered by that guarantee
abbrev pub covered_under : Book → ℕ → ℕ → Bool
covered_under b guarantee o = covered_by b.setup (exposure b.setup b.part.rows o) guarantee o

-- the exposure once the rows are added is covered
abbrev pub covered_with_rows : Book → List Row → ℕ → Bool
covered_with_rows b rows o = covered_in_force b (exposure_with b.setup b.part.rows rows o) o

-- the same of one row
abbrev pub covered_with_row : Book → Row → ℕ → Bool
covered_with_row b row o = covered_with_rows b (row ∷ []) o

-- the exposure once the pending row is confirmed: the trade is added, and a sale is pending no longer
abbrev pub exposure_with_trade : Book → Row → ℕ → ℕ
exposure_with_trade b row o = exposure_with b.setup b.part.rows (with_status confirmed_status row ∷ []) o - sale_worth b.setup o row

-- that exposure is covered
abbrev pub covered_with_trade : Book → Row → ℕ → Bool
covered_with_trade b row o = covered_in_force b (exposure_with_trade b row o) o
