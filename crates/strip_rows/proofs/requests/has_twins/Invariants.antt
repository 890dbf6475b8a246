-- Whether two of all rows are alike is whether two of those left are, where no row passed has its code among those behind it.
use Prim.Native.Nat.{◌+◌, ◌-◌, ◌*◌}
use mathlib.Core.Path.{◌≡◌}
use Rattle.rules.specs.Requests.{row_length}
use Rattle.rules.specs.Registration.{twins}
use Rattle.strip_rows.specs.Rows.{requests_from, RegisterRows}
use Rattle.strip_rows.proofs.requests.has_twins.Given as goal

abbrev pub invariant-loop-i : goal.invariant-loop-i
invariant-loop-i l =
    let k = l.at + row_length * l.i in
    RegisterRows l.bytes k (l.n - l.i) × (twins (requests_from l.bytes l.at l.n) ≡ twins (requests_from l.bytes k (l.n - l.i)))
