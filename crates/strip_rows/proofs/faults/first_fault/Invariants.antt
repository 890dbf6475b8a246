-- What the check of all numbers comes to is what that of the numbers left comes to.
use Prim.Native.Nat.{ℕ, ◌-◌, ◌≤◌, ◌<◌}
use mathlib.Core.Path.{◌≡◌}
use mathlib.Core.List.{map}
use Rattle.rules.specs.Basics.{counting}
use Rattle.rules.specs.Verdicts.{Check, Checked, applies, first_to_apply, checked}
use Rattle.strip_rows.proofs.faults.first_fault.Given as goal

abbrev pub invariant-loop-i : goal.invariant-loop-i
invariant-loop-i g l =
    (l.i ≤ l.n)
    × ((f : ℕ → Check) → ((i : ℕ) → i < l.n → (c : Checked) → goal.F-post g l.check i c → c ≡ checked (applies (f i)))
    → first_to_apply (map f (counting l.n 0)) ≡ first_to_apply (map f (counting (l.n - l.i) l.i)))
