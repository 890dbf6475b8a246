-- A register has two accounts.
use Rattle.strip_rows.proofs.RequestLaws.{same_two}
use Rattle.strip_rows.proofs.requests.accounts_fault.Goals as goal

pub returns : goal.returns
returns c = rw (same_two c.args.q c.requires) c.fails_if.ensures
