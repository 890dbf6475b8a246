-- The fields below `k` have been read and `at` is where the next begins; filling in the rest gives them all.
use Prim.Native.Nat.{ℕ, ◌+◌, ◌-◌}
use mathlib.Core.Path.{◌≡◌, refl, ◌∙◌, sym, ap}
use mathlib.Core.List.{List}
use native.Mathlib.Numerals.{add-one}
use native.Mathlib.Omega.{arith}
use Rattle.rules.specs.Basics.{total, counting}
use Rattle.rules.specs.Requests.{field_count, map_of, room, offset, bits, field_in}
use Rattle.rules.proofs.Records.Fields.{offset_step, field_within, field_in-room}
use Rattle.records.proofs.FieldLaws.{room_small, fill, fill_none, fill_next}
use Rattle.records.proofs.reader.fields.Goals as goal

pub get-given-requires : goal.get-given-requires
unfolding offset
get-given-requires c = omega arith

pub loop-k-init : goal.loop-k-init
unfolding fill bits counting offset total
loop-k-init c = (refl, refl)

pub number_at-requires : goal.number_at-requires
unfolding map_of
number_at-requires c =
    let asked = c.room_of-room.ensures ∙ ap (λ (m : ℕ). room m c.loop-k.k) c.get-given.ensures in
    let m : ℕ = map_of c.args.bytes.now in
    (omega (arith, asked, field_within m c.loop-k.k (omega arith)), omega (arith, asked, room_small m c.loop-k.k))

pub overflow_add-at : goal.overflow_add-at
unfolding map_of
overflow_add-at c =
    let asked = c.room_of-room.ensures ∙ ap (λ (m : ℕ). room m c.loop-k.k) c.get-given.ensures in
    let m : ℕ = map_of c.args.bytes.now in
    omega (arith, asked, field_within m c.loop-k.k (omega arith))

pub loop-k-preserved : goal.loop-k-preserved
unfolding map_of
loop-k-preserved c =
    let asked = c.room_of-room.ensures ∙ ap (λ (m : ℕ). room m c.loop-k.k) c.get-given.ensures in
    let s : List ℕ = c.args.bytes.now in
    let at : c.loop-k.at ≡ offset (map_of s) c.loop-k.k = c.loop-k.invariant.0 in
    let room : c.room_of-room.result ≡ room (map_of s) c.loop-k.k = asked in
    let read : c.number_at.result ≡ field_in s c.loop-k.k = c.number_at.ensures ∙ rw (at, room) (sym (field_in-room s c.loop-k.k)) in (
      rw add-one (omega (arith, offset_step (map_of s) c.loop-k.k)),
      fill_next (field_in s) c.loop-k.found c.loop-k.k (field_count - c.loop-k.k) (field_count - (c.loop-k.k + 1)) c.number_at.result (omega arith) read
          ∙ c.loop-k.invariant.1,
    )

pub returns : goal.returns
returns c = sym (fill_none _ _ c.loop-k.k (field_count - c.loop-k.k) (omega arith)) ∙ c.loop-k.invariant.1
