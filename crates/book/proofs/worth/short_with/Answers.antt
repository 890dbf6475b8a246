-- A trade that is not confirmed, or that has other parties, leaves the net position as it is; any other is taken as the definition says.
use Prim.Native.Nat.{◌-◌}
use mathlib.Core.Path.{ap, ◌∙◌}
use Rattle.rules.specs.declared.AccountHour.{AccountHour}
use Rattle.book.specs.Worth.{short_after}
use Rattle.book.proofs.ShortLaws.{short_still}
use Rattle.book.proofs.worth.short_with.Goals as goal

pub returns-then-trade-account : goal.returns-then-trade-account
unfolding short_after
returns-then-trade-account c = c.short.ensures ∙ ap (λ (x : AccountHour). x.net.sold.0 - x.net.bought.0) c.after_trade-after.ensures

pub returns : goal.returns
returns c = short_still _ _ _ _ _ c.if-trade-account.false c.short-2.ensures
