-- It is the reading of `day`, put into the lent buffer, with its numbers packed.
use Rattle.abi.proofs.PackingLaws.{lends_packed}
use Rattle.abi_inner.proofs.exports.energy_book_exposure_in.Goals as goal

pub returns : goal.returns
returns c =
    rw (← c.exposure_in-reading.ensures) (lends_packed _ _ _ c.lend_exposure.result _ _ c.lend_exposure.ensures.answer c.lend_exposure.ensures.filled c.pack.ensures.answer)
