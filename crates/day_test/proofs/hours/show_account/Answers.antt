use Rattle.std.proofs.Common.{rules}
use Rattle.book.proofs.BookRows.{setup_tabled, hours_read}
use Rattle.day_test.proofs.hours.show_account.Goals as goal

-- src/hours.rt: a book holds its counts
pub counts-n-requires : goal.counts-n-requires
counts-n-requires g c = let s = setup_tabled _ c.requires.priced.0.is_sound in search rules

-- src/hours.rt: the hours are those of the set-up
pub loop-hour-init : goal.loop-hour-init
loop-hour-init g c = (hours_read _ c.requires.priced.0.is_sound _ c.counts-n.ensures, search rules, search rules)
