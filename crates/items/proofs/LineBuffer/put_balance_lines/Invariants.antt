-- The lines put so far and those of the balances that are left are together the whole text.
use Prim.Native.Nat.{◌+◌, ◌-◌, ◌*◌}
use Rattle.rules.specs.Settlement.{figures_in}
use Rattle.items.specs.Written.{line_room}
use Rattle.items.specs.Figures.{balance_lines_text}
use Rattle.items.proofs.ListLaws.{Underway, balances_left}
use Rattle.items.proofs.LineBuffer.put_balance_lines.Given as goal

abbrev pub invariant-loop-k : goal.invariant-loop-k
invariant-loop-k l = Underway l.initial.self (balance_lines_text (figures_in l.n l.balances)) l.self (balances_left l.balances l.k (l.n - l.k)) (l.n - l.k) (l.initial.self.end + line_room * l.n)
