-- What was seen so far and what is left are together the whole answer.
use Rattle.std.proofs.Common.{sym, ◌∙◌, arith}
use Rattle.std.proofs.lemmas.List.Edits.{length-between}
use Rattle.wire.proofs.RegionLaws.{zeros_between, zeros_all}
use Rattle.wire.proofs.regions.all_zero.Goals as goal

pub loop-byte-preserved : goal.loop-byte-preserved
loop-byte-preserved c =
    c.loop-byte.invariant ∙ zeros_between c.loop-byte.ok c.args.s.now c.args.from c.args.n c.loop-byte.byte-index (omega (arith, length-between c.args.s.now c.args.from _ c.requires))

pub returns : goal.returns
returns c = sym (c.loop-byte.invariant ∙ zeros_all c.loop-byte.ok _ _ _ (omega (arith, length-between c.args.s.now c.args.from _ c.requires)))
