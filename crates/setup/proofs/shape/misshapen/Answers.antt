-- Under 5 bytes there are no counts to read; else the tests are those of the definition.
use borrow.Author.Tests.{lt-ltb, le-ltb}
use Rattle.rules.specs.Opening.{misshapen}
use Rattle.setup.proofs.shape.misshapen.Goals as goal

pub returns-then-setup-lt-COUNTS_WIDTH : goal.returns-then-setup-lt-COUNTS_WIDTH
unfolding misshapen
returns-then-setup-lt-COUNTS_WIDTH c = simp (lt-ltb _ _ c.if-setup-lt-COUNTS_WIDTH.true)

pub returns : goal.returns
unfolding misshapen
returns c = simp (le-ltb _ _ c.if-setup-lt-COUNTS_WIDTH.false, c.length_of.ensures, c.bad_counts.ensures, c.counts-n.ensures)
