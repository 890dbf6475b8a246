-- What the table holds, and the pending sums of the strip's rows that are left, make those of the book's rows and all rows of the strip.
use Prim.Native.Nat.{◌+◌, ◌-◌, ◌*◌}
use mathlib.Core.Path.{◌≡◌, refl, ap, ◌∙◌}
use mathlib.Core.List.{◌++◌}
use native.Mathlib.Omega.{arith}
use lib.ListN.{length, length-append, length-map}
use Rattle.wire.proofs.NumberLaws.{bytes_known}
use Rattle.rules.specs.declared.Request.{Request}
use Rattle.rules.specs.Requests.{head_length, row_length}
use Rattle.rules.specs.Registration.{proposed}
use Rattle.image.specs.Valid.{book_in}
use Rattle.book.proofs.WaitLaws.{waits_with, waits_next, waits_all, added_own}
use Rattle.book.proofs.StateLaws.{book_is_sound, row_count_high}
use Rattle.book.proofs.BookRows.{sound_tabled}
use Rattle.strip_rows.proofs.RowSteps.{first_register, any_register, first_request, requests_step, requests_done}
use Rattle.strips.specs.Ready.{proposed_rows, strip_requests}
use Rattle.strips.proofs.ReadyLaws.{ready_rows, requests_length}
use Rattle.strips.proofs.LoopLaws.{first_has}
use Rattle.strips.proofs.waits.fill_all_waits.Goals as goal

pub row_request-first-requires : goal.row_request-first-requires
row_request-first-requires c =
    first_register _ head_length c.args.n (c.args.n - 1) (omega (arith, c.requires.2.is_strip.some_rows)) c.requires.2.is_strip.rows

pub loop-i-init : goal.loop-i-init
loop-i-init c =
    let start-place : head_length + row_length * 0 ≡ head_length = omega arith in
    let all : c.args.n - 0 ≡ c.args.n = omega arith in
    let count : length (book_in c.args.book.now).part.rows + 0 ≡ length (book_in c.args.book.now).part.rows = omega arith in
    let own = ap (λ (q : Request). q.account) (first_request _ head_length c.args.n (c.args.n - 1) (omega (arith, c.requires.2.is_strip.some_rows)) c.row_request-first.ensures) in
    let w = rw own at c.fill_waits.ensures.waits in (
      rw (start-place, all) (ready_rows _ _ c.args.n (bytes_known _ c.type_inv.bytes) c.requires.2),
      c.requires.2.is_strip.few_rows,
      row_count_high _ c.requires.1,
      w.whole,
      rw (count, start-place, all) (waits_with _ _ (proposed_rows c.args.bytes.now c.args.n) _ w),
    )

pub row_request-q-requires : goal.row_request-q-requires
row_request-q-requires c =
    any_register _ head_length c.args.n c.loop-i.i (omega arith) c.requires.2.is_strip.rows

pub add_waiting-requires : goal.add_waiting-requires
add_waiting-requires c =
    let k = head_length + row_length * c.loop-i.i in
    let own = (first_has _ k (c.args.n - c.loop-i.i) (c.args.n - (c.loop-i.i + 1)) (omega arith) c.row_request-q.ensures c.loop-i.invariant.0).0 in
    let tabled = sound_tabled _ (book_is_sound _ c.requires.1).setup_sound _ own.sound_row in (
      (c.loop-i.invariant.3, λ k low. rw c.proposed_row.ensures (omega (arith, c.loop-i.invariant.4.bounded k, tabled.quantity_high))),
      rw c.proposed_row.ensures tabled,
      rw c.proposed_row.ensures own.sound_row.side_low,
      rw c.proposed_row.ensures own.sound_row.side_high,
    )

pub loop-i-preserved : goal.loop-i-preserved
loop-i-preserved c =
    let k = head_length + row_length * c.loop-i.i in
    let left = c.args.n - c.loop-i.i in
    let fewer = c.args.n - (c.loop-i.i + 1) in
    let next : head_length + row_length * (c.loop-i.i + 1) ≡ k + row_length = omega arith in
    let step = first_has _ k left fewer (omega arith) c.row_request-q.ensures c.loop-i.invariant.0 in
    let tabled = sound_tabled _ (book_is_sound _ c.requires.1).setup_sound _ step.0.sound_row in
    let more = added_own _ _ _ _ tabled step.0.sound_row.side_low step.0.sound_row.side_high refl step.0.own (rw c.proposed_row.ensures at c.add_waiting.ensures) in
    let count : length (book_in c.args.book.now).part.rows + c.loop-i.i + 1 ≡ length (book_in c.args.book.now).part.rows + (c.loop-i.i + 1) = omega arith in (
      rw next step.1,
      c.loop-i.invariant.1,
      c.loop-i.invariant.2,
      omega (arith, c.loop-i.invariant.3, c.add_waiting.auto),
      rw (← count, next) (waits_next _ _ _ _ _ _ _ more (rw (requests_step _ k left fewer (omega arith) c.row_request-q.ensures) at c.loop-i.invariant.4)),
    )

pub returns : goal.returns
returns c =
    let rows = (book_in c.args.book.now).part.rows in
    let added = proposed_rows c.args.bytes.now c.args.n in
    let all : length (rows ++ added) ≡ length rows + c.loop-i.i =
    length-append rows added ∙ omega (arith, length-map (strip_requests c.args.bytes.now c.args.n) proposed, requests_length c.args.bytes.now head_length c.args.n) in
    waits_all _ _ _ c.loop-i.invariant.3 (rw all (rw (requests_done _ _ (c.args.n - c.loop-i.i) (omega arith)) at c.loop-i.invariant.4))
