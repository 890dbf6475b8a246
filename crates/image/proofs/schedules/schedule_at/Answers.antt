-- Each number inside the schedule's bytes is that number of the whole.
use Rattle.image.proofs.Reading.RowBytes.{schedule_at}
use Rattle.image.proofs.schedules.schedule_at.Goals as goal

pub returns : goal.returns
returns c = rw schedule_at (cc)
