-- A number of one byte is that byte.
use Rattle.std.proofs.Common.{◌∙◌, sym}
use Rattle.wire.proofs.NumberLaws.{number_at_one, number_whole}
use Rattle.wire.proofs.numbers.U8Word.from_bytes.Goals as goal

pub returns : goal.returns
returns c = sym (number_at_one _ 0) ∙ number_whole _ 1 c.requires
