-- It is the call of `day`, with its outcome packed.
use Rattle.abi.proofs.PackingLaws.{given-packed}
use Rattle.abi.proofs.exports.energy_book_call.Goals as goal

pub returns : goal.returns
returns c =
    record { answer = given-packed _ _ _ _ _ _ c.call.ensures.answer c.pack.ensures.answer }
