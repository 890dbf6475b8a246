-- After each number, what was tested so far and the test of the numbers that are left together are the test of all.
use Prim.Native.Nat.{ℕ, ◌-◌, ◌≤◌, ◌<◌}
use mathlib.Core.Path.{◌≡◌}
use mathlib.Core.Bool.{Bool, ◌&&◌}
use Rattle.rules.specs.Basics.{every, counting}
use Rattle.audit.proofs.checks.all_pass.Given as goal

abbrev pub invariant-loop-i : goal.invariant-loop-i
invariant-loop-i g l =
    (l.i ≤ l.n)
    × ((p : ℕ → Bool) → ((i : ℕ) → i < l.n → (t : Bool) → goal.F-post g l.test i t → t ≡ p i) → every p (counting l.n 0) ≡ (l.ok && every p (counting (l.n - l.i) l.i)))
