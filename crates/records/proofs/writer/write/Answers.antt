-- Refusals 3 and 10 come first and leave the buffer alone.
use mathlib.Core.Path.{◌∙◌, sym}
use native.Mathlib.Omega.{arith}
use Rattle.records.proofs.WritingLaws.{writes_no_kind, writes_no_room, writes_record}
use Rattle.records.proofs.writer.write.Goals as goal

pub returns-then-not-is_single : goal.returns-then-not-is_single
returns-then-not-is_single c =
    let both = writes_no_kind c.args.request c.args.buffer.now (sym c.is_single.ensures ∙ c.if-not-is_single.true) in
    record { answer = both.0; filled = both.1 }

pub returns-then-buffer-wanted_length : goal.returns-then-buffer-wanted_length
returns-then-buffer-wanted_length c =
    let both = writes_no_room c.args.request c.args.buffer.now (sym c.is_single.ensures ∙ c.if-not-is_single.false) (omega (arith, c.wanted_length.ensures)) in
    record { answer = both.0; filled = both.1 }

pub returns : goal.returns
returns c =
    let single = sym c.is_single.ensures ∙ c.if-not-is_single.false in
    let w = writes_record c.args.request c.args.buffer.now single (omega (arith, c.wanted_length.ensures, c.if-buffer-wanted_length.false)) in
    record { answer = w.0; filled = c.put_record.ensures ∙ w.1 }
