-- The proposer's cells are raised in the lane of the row's side.
use native.Mathlib.Omega.{arith}
use Rattle.tables.proofs.ShareLaws.{added_sale, added_purchase, added_sideless}
use borrow.Author.Rules.{rules}
use Rattle.tables.proofs.sums.add_pending.Goals as goal

pub add_hours-requires : goal.add_hours-requires
add_hours-requires c =
    record { sum_table = search rules; tabled = (c.requires.1.tabled, λ k l. c.requires.1.room k (omega arith)) }

pub add_hours-requires-then-r-eq-BUYS : goal.add_hours-requires-then-r-eq-BUYS
add_hours-requires-then-r-eq-BUYS c =
    record { sum_table = search rules; tabled = (c.requires.1.tabled, λ k l. c.requires.1.room k (omega arith)) }

pub returns-then-r-eq-SELLS : goal.returns-then-r-eq-SELLS
returns-then-r-eq-SELLS c =
    added_sale _ _ _ c.requires.1.tabled c.requires.2 c.if-r-eq-SELLS.true c.add_hours.ensures

pub returns-then-r-eq-BUYS : goal.returns-then-r-eq-BUYS
returns-then-r-eq-BUYS c =
    added_purchase _ _ _ c.requires.1.tabled c.requires.2 c.if-r-eq-BUYS.true c.add_hours-then-r-eq-BUYS.ensures

pub returns-else-r-eq-BUYS : goal.returns-else-r-eq-BUYS
returns-else-r-eq-BUYS c =
    added_sideless _ _ c.requires.2 c.if-r-eq-SELLS.false c.if-r-eq-BUYS.false
