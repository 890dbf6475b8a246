-- It is the reading of `day`, put into the lent buffer, with its numbers packed.
use Rattle.abi.proofs.PackingLaws.{lends_packed}
use Rattle.abi.proofs.exports.energy_book_read.Goals as goal

pub returns : goal.returns
returns c =
    rw (← c.read-said.ensures) (lends_packed _ _ _ c.lend_request.result _ _ c.lend_request.ensures.answer c.lend_request.ensures.filled c.pack.ensures.answer)
