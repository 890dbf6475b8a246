-- The fields decide where the account is the proposer.
use Rattle.strip_rows.proofs.RequestLaws.{of_proposer, of_another}
use Rattle.strip_rows.proofs.requests.range_fault.Goals as goal

pub returns-then-q-proposer : goal.returns-then-q-proposer
returns-then-q-proposer c = rw (of_proposer c.args.counts c.args.proposer c.args.q c.if-q-proposer.true) c.trade_ranges.ensures

pub returns : goal.returns
returns c = rw (of_another c.args.counts c.args.proposer c.args.q c.if-q-proposer.false)
