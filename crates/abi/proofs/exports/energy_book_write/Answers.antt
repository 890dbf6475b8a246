-- It is the writing of `day`, with its outcome packed.
use Rattle.abi.proofs.exports.energy_book_write.Goals as goal

pub returns : goal.returns
returns c = record { answer = rw (← c.write_fields.ensures.answer) c.pack.ensures.answer; filled = c.write_fields.ensures.filled }
