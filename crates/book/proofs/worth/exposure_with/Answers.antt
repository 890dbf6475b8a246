-- An exposure is what lies below zero, the pending sales of the rows, and those of what is added.
use native.Mathlib.Omega.{arith}
use Rattle.book.specs.Worth.{added_rows}
use Rattle.book.proofs.WorthParts.{exposure_joined, trade_quantity}
use Rattle.book.proofs.worth.exposure_with.Goals as goal

pub short_worth-below-requires : goal.short_worth-below-requires
short_worth-below-requires c =
    (record { is_sound = c.requires.0; account_operators = c.account_operators-operators.ensures }, trade_quantity _ c.requires.1)

pub returns : goal.returns
returns c =
    record {
      meaning = exposure_joined _ c.requires.0 c.args.operator (added_rows c.args.added) c.requires.1 _ _ _ _ _
          c.short_worth-below.ensures.meaning c.sales_worth-waits.ensures.meaning c.added_sale-own.ensures.meaning c.add.ensures c.add-2.ensures;
      bounded = omega (arith, c.add-2.ensures, c.add.ensures, c.short_worth-below.ensures.bounded, c.sales_worth-waits.ensures.bounded, c.added_sale-own.ensures.bounded);
    }
