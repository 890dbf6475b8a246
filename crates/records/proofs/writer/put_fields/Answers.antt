-- Putting the fields from `k` on at `at`, where they begin, gives the whole.
use Prim.Native.Nat.{◌+◌, ◌-◌, ◌≤◌}
use mathlib.Core.Path.{refl, ◌∙◌, sym}
use lib.ListN.{length}
use native.Mathlib.Numerals.{add-one}
use native.Mathlib.Omega.{arith}
use Rattle.rules.specs.Basics.{total, counting}
use Rattle.rules.specs.Requests.{field_count, offset}
use Rattle.rules.proofs.Records.Fields.{offset_step, field_within}
use Rattle.records.proofs.WritingLaws.{fields_put, fields_next}
use Rattle.records.proofs.writer.put_fields.Goals as goal

pub loop-k-init : goal.loop-k-init
unfolding offset total counting
loop-k-init c = (refl, refl, refl)

pub put_number-requires : goal.put_number-requires
put_number-requires c =
    omega (arith, c.room_of-room.ensures, field_within c.args.map c.loop-k.k (omega arith))

pub overflow_add-at : goal.overflow_add-at
overflow_add-at c =
    omega (arith, c.room_of-room.ensures, field_within c.args.map c.loop-k.k (omega arith))

pub loop-k-preserved : goal.loop-k-preserved
loop-k-preserved c =
    let room = c.room_of-room.ensures in
    let within-buffer : c.loop-k.at + c.room_of-room.result ≤ length c.loop-k.buffer =
    omega (arith, room, field_within c.args.map c.loop-k.k (omega arith)) in
    let next =
    fields_next c.args.map c.args.q c.loop-k.buffer c.loop-k.at c.loop-k.k (field_count - c.loop-k.k) (field_count - (c.loop-k.k + 1)) _ _ (omega arith)
    room c.field_of.ensures (omega (arith, within-buffer)) in (
      rw add-one (omega (arith, room, offset_step c.args.map c.loop-k.k)),
      c.put_number.auto.s ∙ c.loop-k.invariant.1,
      rw c.put_number.ensures next ∙ c.loop-k.invariant.2,
    )

pub returns : goal.returns
returns c =
    sym (fields_put c.args.map c.args.q c.loop-k.buffer c.loop-k.at c.loop-k.k (field_count - c.loop-k.k) (omega arith)) ∙ c.loop-k.invariant.2
