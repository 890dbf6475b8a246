-- Each of the four sums takes its share of the trade.
use Rattle.rules.specs.Registration.{after_trade}
use Rattle.rules.proofs.AccountHour.after_trade.Goals as goal

pub returns : goal.returns
unfolding after_trade
returns c =
    rw (← c.moved_net-net.ensures.bought, ← c.moved_net-net.ensures.sold, ← c.waiting-sales.ensures.meaning, ← c.waiting-purchases.ensures.meaning, ← c.add.ensures, ← c.add-2.ensures)
