-- A net position as its 4 bytes say it: what was bought beyond what was sold, or the reverse.
use Rattle.std.specs.Prelude.{◌-◌}
use Rattle.units.specs.Units.{kwh}
use Rattle.rules.specs.declared.Net.{Net}

-- the two sums of a net position less what they have in common, so that one of them is 0
unfoldable pub netted : Net → Net
netted n = record { bought = kwh (n.bought.0 - n.sold.0); sold = kwh (n.sold.0 - n.bought.0) }
