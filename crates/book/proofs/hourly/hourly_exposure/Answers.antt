-- The two parts together, at the estimate of the hour.
use Rattle.book.proofs.HourlyLaws.{hour_joined}
use Rattle.book.proofs.hourly.hourly_exposure.Goals as goal

pub short_of_operator-below-requires : goal.short_of_operator-below-requires
short_of_operator-below-requires c =
    (record { is_sound = c.requires.0; account_operators = c.account_operators-operators.ensures }, c.requires.1)

pub sales_of_operator-waits-requires : goal.sales_of_operator-waits-requires
sales_of_operator-waits-requires c =
    record { is_sound = c.requires.0; account_operators = c.account_operators-operators.ensures }

pub returns : goal.returns
returns c =
    hour_joined _ c.requires.0 c.args.operator c.args.hour _ _ _ _ _ c.short_of_operator-below.ensures.meaning
    c.sales_of_operator-waits.ensures.meaning c.add.ensures c.price-price.ensures.meaning c.at.ensures.exact
