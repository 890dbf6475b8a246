-- The library's bytes are those of the number.
use Rattle.std.proofs.Common.{◌∙◌}
use Rattle.wire.proofs.NumberLaws.{to_bytes}
use Rattle.wire.proofs.numbers.U16Word.put_into.Goals as goal

pub returns : goal.returns
returns c = c.copy_from_slice.ensures.after ∙ c.to_le_bytes.ensures ∙ to_bytes 2 c.args.self
