-- The sum so far, and what the rows that are left add, make what all rows add.
use Prim.Native.Nat.{◌+◌, ◌-◌, ◌*◌, ◌≤◌}
use mathlib.Core.Path.{◌≡◌}
use Rattle.rules.specs.Basics.{total, Each}
use Rattle.rules.specs.Requests.{head_length, row_length}
use Rattle.rules.specs.Registration.{proposed}
use Rattle.image.specs.Valid.{book_in}
use Rattle.image.proofs.Sound.Soundness.{SoundRow}
use Rattle.book.specs.Worth.{sale_worth, most_sale_worth}
use Rattle.strip_rows.specs.Rows.{requests_from}
use Rattle.strips.specs.Ready.{proposed_rows}
use Rattle.strips.proofs.LoopLaws.{proposed_from}
use Rattle.strips.proofs.cover.strip_sales.Given as goal

abbrev pub invariant-loop-i : goal.invariant-loop-i
invariant-loop-i l =
    let u = (book_in l.book).setup in
    let k = head_length + row_length * l.i in
    Each (λ q. SoundRow u (proposed q)) (requests_from l.bytes k (l.n - l.i))
    × (l.sum.0 ≤ l.i * most_sale_worth)
    × (l.sum.0 + total (sale_worth u l.operator) (proposed_from l.bytes k (l.n - l.i)) ≡ total (sale_worth u l.operator) (proposed_rows l.bytes l.n))
