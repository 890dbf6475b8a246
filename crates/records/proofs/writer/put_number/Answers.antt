-- Putting what is left of the number from the index on gives the whole.
use Rattle.std.proofs.Common.{◌≡◌, ◌∙◌, sym, arith, ◌+◌, ◌-◌, length, length-set}
use Rattle.std.specs.List.{between}
use Rattle.std.proofs.lemmas.List.Edits.{length-between}
use Rattle.wire.proofs.NumberLaws.{length-le}
use Rattle.wire.proofs.RegionLaws.{splice_all, part_spliced}
use Rattle.records.proofs.WritingLaws.{number_put, number-next}
use Rattle.records.proofs.writer.put_number.Goals as goal

pub loop-byte-init : goal.loop-byte-init
loop-byte-init c =
    let long : length (between c.args.at (c.args.at + c.args.width) c.args.s.now) ≡ c.args.width = length-between c.args.s.now c.args.at _ c.requires ∙ omega arith in
    let all : c.args.width - 0 ≡ c.args.width = omega arith in
    record { as_long = long; put = rw all (splice_all _ _ (length-le c.args.width c.args.v ∙ sym long)) }

pub loop-byte-preserved : goal.loop-byte-preserved
loop-byte-preserved c =
    let so_far = c.loop-byte.invariant in
    let left = c.args.width - c.loop-byte.byte-index in
    record {
      as_long = simp length-set so_far.as_long;
      put = number-next c.loop-byte.byte-items c.loop-byte.byte-index left (c.args.width - (c.loop-byte.byte-index + 1)) c.loop-byte.rest (omega arith) (omega arith) ∙ so_far.put;
    }

pub returns : goal.returns
returns c =
    let so_far = c.loop-byte.invariant in
    let whole = sym (number_put c.loop-byte.byte-items c.loop-byte.byte-index (c.args.width - c.loop-byte.byte-index) c.loop-byte.rest (omega arith)) ∙ so_far.put in
    part_spliced _ _ _ _ _ whole (omega (arith, length-le c.args.width c.args.v))
