-- What is a book is sound.
use Rattle.rules.specs.Limits.{most_hours, book_size}
use Rattle.image.proofs.Round.{book_is_sound}
use Rattle.day.proofs.interface.hourly_exposure_in.Goals as goal

pub hourly_exposure_in-requires : goal.hourly_exposure_in-requires
hourly_exposure_in-requires c = book_is_sound most_hours book_size _ c.requires
