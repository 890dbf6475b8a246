-- The tests are those of the definition, in its order.
use Rattle.audit.proofs.CheckLaws.{schedule_by_counts}
use Rattle.audit.proofs.checks.schedule_ok.Goals as goal

pub returns : goal.returns
returns c u n h = schedule_by_counts u _ _ _ n h
