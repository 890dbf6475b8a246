-- The saved part is cleared, and then the flag.
use Rattle.batches.proofs.saving.end_batch.Goals as goal

pub returns : goal.returns
returns c = cc
