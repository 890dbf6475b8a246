-- The loop stays within the input, and the measure is what is left of it: every case has an end past its start.
use Rattle.std.proofs.Common.{length, ◌-◌, ◌≤◌}
use Rattle.book_test.proofs.run_cases.Given as goal

abbrev pub invariant-loop-at : goal.invariant-loop-at
invariant-loop-at g l = l.at ≤ length l.fn.input

abbrev pub decreases-loop-at : goal.decreases-loop-at
decreases-loop-at g l = length l.fn.input - l.at
