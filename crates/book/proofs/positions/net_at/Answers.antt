-- In a book no margin is broken, so that a net position is nearer to zero than 2^31: below that its 4 bytes say what was bought beyond what
-- was sold, and from there on the reverse.
use native.Mathlib.Omega.{arith}
use Rattle.book.proofs.ReadingLaws.{net_has_place}
use Rattle.book.proofs.NettedLaws.{net_bought, net_sold}
use Rattle.book.proofs.positions.net_at.Goals as goal

pub stored_net-stored-requires : goal.stored_net-stored-requires
stored_net-stored-requires c =
    (c.requires.0, net_has_place c.args.book.now c.requires.0 c.args.account c.args.hour c.requires.1 c.requires.2)

pub returns-then-stored-lt-HALF_U32 : goal.returns-then-stored-lt-HALF_U32
returns-then-stored-lt-HALF_U32 c =
    net_bought c.args.book.now c.requires.0 c.args.account c.args.hour c.requires.1 c.requires.2 c.stored_net-stored.result c.stored_net-stored.ensures
    c.if-stored-lt-HALF_U32.true

pub returns : goal.returns
returns c =
    net_sold c.args.book.now c.requires.0 c.args.account c.args.hour c.requires.1 c.requires.2 c.stored_net-stored.result c.stored_net-stored.ensures
    c.if-stored-lt-HALF_U32.false _ (omega arith)
