-- The bytes are the book's image, which has the guarantee in force in these 8 bytes.
use Rattle.std.proofs.Common.{refl, ap, ◌∙◌, arith}
use Rattle.units.specs.Units.{cents}
use Rattle.book.proofs.StateLaws.{book_length}
use Rattle.registration.proofs.CoverLaws.{guarantee_stands}
use Rattle.registration.proofs.cover.guarantee_in_force.Goals as goal

pub get-requires : goal.get-requires
get-requires c = let n = book_length _ c.requires.0 in omega arith

pub returns : goal.returns
returns c =
    let stands = guarantee_stands _ c.requires.0 c.args.number c.requires.1 _ refl in
    let read = c.get.ensures ∙ stands.0 in
    record { meaning = ap cents read; bounded = omega (arith, read, stands.1) }
