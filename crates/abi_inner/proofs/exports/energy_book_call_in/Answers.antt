-- It is the call of `day` on a book, which leaves a book, with its outcome packed.
use Rattle.abi.proofs.PackingLaws.{given-packed}
use Rattle.abi_inner.proofs.exports.energy_book_call_in.Goals as goal

pub returns : goal.returns
returns c =
    record { answer = given-packed _ _ _ _ _ _ c.call_in.ensures.answer c.pack.ensures.answer; still = c.call_in.ensures.still }
