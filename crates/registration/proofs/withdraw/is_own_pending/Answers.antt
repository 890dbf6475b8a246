-- Past the last number there is no row; up to it the row's bytes say its status and its proposer.
use Rattle.std.proofs.Common.{sym, arith}
use Rattle.book.proofs.StateLaws.{book_length}
use Rattle.registration.proofs.Withdrawals.{no_such_number, own_pending}
use Rattle.registration.proofs.withdraw.is_own_pending.Goals as goal

pub returns-then-row_count-request : goal.returns-then-row_count-request
returns-then-row_count-request c = sym (no_such_number _ _ (omega arith))

pub get-requires : goal.get-requires
get-requires c = let n = book_length _ c.requires.known_book in omega arith

pub get-requires-2 : goal.get-requires-2
get-requires-2 c = let n = book_length _ c.requires.known_book in omega arith

pub returns : goal.returns
returns c =
    own_pending _ _ _ _ _ c.requires.known_book (c.requires.numbered, omega arith) c.row_offset-at.ensures c.get.ensures c.get-2.ensures
