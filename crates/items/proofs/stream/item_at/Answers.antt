-- The tests of the code are those of the definition, and the length is read only where both its bytes stand.
use mathlib.Core.Path.{sym}
use native.Mathlib.Omega.{arith}
use borrow.Author.Rules.{rules}
use Rattle.items.proofs.StreamLaws.{found_end, found_cut, found_whole}
use Rattle.items.proofs.stream.item_at.Goals as goal

pub returns-then-stream-at : goal.returns-then-stream-at
returns-then-stream-at c = sym (found_end _ _ (search rules))

pub returns-then-left-lt2 : goal.returns-then-left-lt2
returns-then-left-lt2 c = sym (found_cut _ _ (omega arith) (omega arith))

pub returns-then-n-left : goal.returns-then-n-left
returns-then-n-left c = rw c.get-n.ensures (sym (found_whole _ _ (omega arith)))

pub returns-else-n-left : goal.returns-else-n-left
returns-else-n-left c = sym (found_cut _ _ (omega arith) (omega arith))
