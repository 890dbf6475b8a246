-- Where nothing is added no sale is, and the sum over one row is what that row adds.
use native.Mathlib.Omega.{arith}
use Rattle.rules.specs.Basics.{total}
use Rattle.rules.specs.Books.{no_row}
use Rattle.rules.proofs.Basics.Searches.{each_at}
use Rattle.book.proofs.worth.added_sale.Goals as goal

pub sale_of-requires : goal.sale_of-requires
sale_of-requires c =
    (c.requires.0, each_at no_row 0 (rw c.in-Some.is at c.requires.1) (omega arith))

pub returns-in-None : goal.returns-in-None
unfolding total
returns-in-None c = rw c.in-None.is (record { meaning = omega arith; bounded = omega arith })

pub returns-in-Some : goal.returns-in-Some
unfolding total
returns-in-Some c =
    rw c.in-Some.is (record { meaning = omega (arith, c.sale_of.ensures.meaning); bounded = c.sale_of.ensures.bounded })
