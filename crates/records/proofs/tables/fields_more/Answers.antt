-- The ones of wanted-and-not-given are counted bit by bit.
use native.Mathlib.Omega.{arith}
use Rattle.records.proofs.MapLaws.{ones_more}
use Rattle.records.proofs.tables.fields_more.Goals as goal

pub returns : goal.returns
returns c = ones_more c.args.one c.args.other c.requires (omega arith)
