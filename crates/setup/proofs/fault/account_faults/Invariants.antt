-- An account without a fault is passed over, and the first with one decides.
use Prim.Native.Nat.{◌+◌, ◌-◌, ◌≤◌}
use Rattle.rules.specs.Opening.{account_in, account_values, account_entry, account_offset}
use Rattle.setup.specs.Faults.{account_faults}
use Rattle.setup.proofs.FaultLaws.{EntriesLeft}
use Rattle.setup.proofs.fault.account_faults.Given as goal

abbrev pub invariant-loop-number : goal.invariant-loop-number
invariant-loop-number l =
    (1 ≤ l.number)
    × (l.number ≤ l.number-end + 1)
    × EntriesLeft (account_entry l.n) (account_in l.n) (account_values l.n) l.setup (account_faults l.setup) (account_offset l.n l.number) (l.number-end + 1 - l.number)
