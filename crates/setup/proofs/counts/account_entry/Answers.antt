-- The widths of an account's fields add up to the width of its entry.
use native.Mathlib.Omega.{arith}
use Rattle.rules.specs.Opening.{account_entry}
use Rattle.setup.proofs.counts.account_entry.Goals as goal

pub returns : goal.returns
unfolding account_entry
returns c = (omega (arith, c.margins_length.ensures), omega (arith, c.margins_length.ensures))
