-- The rows that are appended make the changed book, and there is a number for each.
use native.Mathlib.Omega.{arith}
use Rattle.wire.proofs.NumberLaws.{bytes_known}
use Rattle.book.proofs.StateLaws.{book_length}
use Rattle.strips.proofs.AcceptLaws.{room_for_all, strip-accepted}
use Rattle.strips.proofs.strip.accept.Goals as goal

pub append_rows-requires : goal.append_rows-requires
append_rows-requires c =
    (book_length _ c.requires.known_book.0, c.requires.known_book.1.is_strip, omega (arith, c.row_count-count.ensures.meaning, room_for_all _ _ c.args.n c.requires.nothing_refuses))

pub returns : goal.returns
returns c =
    let both = strip-accepted _ _ c.args.n c.requires.nothing_refuses c.requires.known_book.0 (bytes_known _ c.type_inv.bytes) c.requires.known_book.1 _ _
    c.row_count-count.ensures.meaning c.append_rows.ensures in record { answer = both.0; bytes = both.1.0; still = both.1.1 }
