-- The code makes the three tests of the definition, in their order.
use lib.ListN.{length}
use borrow.Author.Tests.{lt-ltb, le-ltb}
use Rattle.rules.specs.Requests.{map_of, unreadable}
use Rattle.records.proofs.reader.no_map.Goals as goal

pub returns-then-bytes-lt3 : goal.returns-then-bytes-lt3
unfolding unreadable
returns-then-bytes-lt3 c = rw (lt-ltb (length c.args.bytes.now) 3 c.if-bytes-lt3.true)

pub returns : goal.returns
unfolding unreadable map_of
returns c = simp (c.has_field.ensures, c.get-given.ensures, le-ltb (length c.args.bytes.now) 3 c.if-bytes-lt3.false)
