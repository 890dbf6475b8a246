-- It is the reading of `day`, put into the lent buffer, with its numbers packed.
use Rattle.abi.proofs.PackingLaws.{lends_packed}
use Rattle.abi_inner.proofs.exports.energy_book_net_in.Goals as goal

pub returns : goal.returns
returns c =
    rw (← c.net_in-reading.ensures) (lends_packed _ _ _ c.lend_net.result _ _ c.lend_net.ensures.answer c.lend_net.ensures.filled c.pack.ensures.answer)
