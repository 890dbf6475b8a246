-- The bytes are the book's image, which has the number of the phase at this place.
use mathlib.Core.Path.{◌∙◌}
use native.Mathlib.Omega.{arith}
use Rattle.book.proofs.StateLaws.{book_length, book_is_sound, phase_stands}
use Rattle.book.proofs.state.phase.Goals as goal

pub get-requires : goal.get-requires
get-requires c = omega (arith, book_length _ c.requires)

pub of-requires : goal.of-requires
of-requires c =
    let sound = book_is_sound _ c.requires in
    let same = c.get.ensures ∙ phase_stands _ c.requires in
    (omega (arith, same, sound.phase_low), omega (arith, same, sound.phase_high))

pub returns : goal.returns
returns c = c.of.ensures ∙ c.get.ensures ∙ phase_stands _ c.requires
