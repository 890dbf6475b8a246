-- The lines put so far and those of the results that are left are together the whole text.
use Prim.Native.Nat.{◌+◌, ◌-◌, ◌*◌}
use Rattle.items.specs.Written.{line_room}
use Rattle.items.specs.Figures.{results_text}
use Rattle.items.proofs.ListLaws.{Underway, results_left}
use Rattle.items.proofs.LineBuffer.put_results.Given as goal

abbrev pub invariant-loop-k : goal.invariant-loop-k
invariant-loop-k l = Underway l.initial.self (results_text l.n l.results) l.self (results_left l.results l.k (l.n - l.k)) (l.n - l.k) (l.initial.self.end + line_room * l.n)
