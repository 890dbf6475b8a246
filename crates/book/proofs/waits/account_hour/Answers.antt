-- The net position is that of the book, and each of the two cells is read.
use native.Mathlib.Omega.{arith}
use Rattle.book.proofs.WaitLaws.{side_hour}
use Rattle.book.proofs.waits.account_hour.Goals as goal

pub wait_at-requires : goal.wait_at-requires
wait_at-requires c =
    (c.requires.known_book.1, side_hour _ c.requires.known_book.0 1 _ (omega arith) (omega arith) c.requires.account.1)

pub wait_at-requires-2 : goal.wait_at-requires-2
wait_at-requires-2 c =
    (c.requires.known_book.1, side_hour _ c.requires.known_book.0 2 _ (omega arith) (omega arith) c.requires.account.1)

pub returns : goal.returns
returns c = rw (c.net_at-net.ensures, c.wait_at.ensures, c.wait_at-2.ensures)
