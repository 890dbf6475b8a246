-- It is the opening of `day`, with its outcome packed.
use Rattle.abi.proofs.exports.energy_book_open.Goals as goal

pub returns : goal.returns
returns c = record { answer = rw (← c.open.ensures.answer) c.pack.ensures.answer; filled = c.open.ensures.filled }
