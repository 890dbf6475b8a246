-- The 4 bytes of an account and an hour lie within the bytes of a book.
use native.Mathlib.Omega.{arith}
use Rattle.book.proofs.StateLaws.{book_length}
use Rattle.book.proofs.positions.stored_net.Goals as goal

pub get-requires : goal.get-requires
get-requires c = omega (arith, c.net_offset.ensures, c.requires.1, book_length c.args.book.now c.requires.0)

pub returns : goal.returns
returns c = cc
