-- The library's number is that of the bytes.
use Rattle.std.proofs.Common.{◌∙◌}
use Rattle.wire.proofs.NumberLaws.{from_bytes}
use Rattle.wire.proofs.numbers.U16Word.from_bytes.Goals as goal

pub returns : goal.returns
returns c = c.from_le_bytes.ensures ∙ from_bytes c.args.bytes.now 1 c.requires
