-- A refusal that is passed on by `?`.
use Rattle.std.specs.Prelude.{◌≡◌, Result, Ok, Err, IsErrAnd}
use mathlib.Core.Path.{ap}

pub passed_on : {T E : Type 0} {e : E} (r : Result T E) → IsErrAnd r (λ y. y ≡ e) → r ≡ Err e
passed_on (Err y) h = ap Err h
passed_on (Ok _) h = elim h [ ]
