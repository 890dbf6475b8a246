-- A byte is the number of one byte.
use Rattle.std.proofs.Common.{◌∙◌, sym, arith}
use Rattle.wire.proofs.NumberLaws.{le_byte}
use Rattle.wire.proofs.numbers.U8Word.put_into.Goals as goal

pub returns : goal.returns
returns c = c.copy_from_slice.ensures.after ∙ c.to_le_bytes.ensures ∙ sym (le_byte c.args.self (omega arith))
