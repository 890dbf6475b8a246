-- The first byte of a row is its proposer and the last its status, so that these two say whether the row is added.
use mathlib.Core.Path.{◌≡◌, ◌∙◌, sym}
use native.Mathlib.Omega.{arith}
use Rattle.image.specs.Valid.{book_in}
use Rattle.book.specs.Members.{numbered_row}
use Rattle.book.proofs.StateLaws.{book_length, row_count_high, numbered_row_stands}
use Rattle.book.proofs.BookRows.{numbered_sound, numbered_tabled}
use Rattle.book.proofs.WaitLaws.{own_stands, added_own, added_of_ended, ended_unlike, own_alike}
use Rattle.book.proofs.waits.add_own.Goals as goal

pub row_offset-at-requires : goal.row_offset-at-requires
row_offset-at-requires c = omega (arith, c.requires.2, row_count_high _ c.requires.1)

pub get-requires : goal.get-requires
get-requires c =
    omega (arith, c.requires.2, c.row_offset-at.ensures, row_count_high _ c.requires.1, book_length _ c.requires.1)

pub get-requires-2 : goal.get-requires-2
get-requires-2 c =
    omega (arith, c.requires.2, c.row_offset-at.ensures, row_count_high _ c.requires.1, book_length _ c.requires.1)

pub returns-then-get-ne-PENDING : goal.returns-then-get-ne-PENDING
returns-then-get-ne-PENDING c =
    let stands = own_stands _ c.requires.1 c.args.number _ c.requires.2 c.row_offset-at.ensures in
    let status = c.get-2.ensures ∙ stands.1 in
    record { waits = added_of_ended _ _ _ _ status c.if-get-ne-PENDING.true; tells = ended_unlike _ c.args.account c.args.counterparty c.args.code _ status c.if-get-ne-PENDING.true }

pub row_at-r-requires : goal.row_at-r-requires
row_at-r-requires c =
    omega (arith, c.requires.2, c.row_offset-at.ensures, row_count_high _ c.requires.1, book_length _ c.requires.1)

pub add_waiting-requires : goal.add_waiting-requires
add_waiting-requires c =
    let same = c.row_at-r.ensures ∙ numbered_row_stands _ c.requires.1 c.args.number _ c.requires.2 c.row_offset-at.ensures in
    let sound = numbered_sound _ c.requires.1 c.args.number c.requires.2 in
    let tabled = numbered_tabled _ c.requires.1 c.args.number c.requires.2 in
    ((c.requires.0.0, λ k l. rw same (omega (arith, c.requires.0.1 k l, tabled.quantity_high))), rw same tabled, rw same sound.side_low, rw same sound.side_high)

pub returns : goal.returns
returns c =
    let same = c.row_at-r.ensures ∙ numbered_row_stands _ c.requires.1 c.args.number _ c.requires.2 c.row_offset-at.ensures in
    let stands = own_stands _ c.requires.1 c.args.number _ c.requires.2 c.row_offset-at.ensures in
    let sound = numbered_sound _ c.requires.1 c.args.number c.requires.2 in
    let waits = sym (c.get-2.ensures ∙ stands.1) ∙ c.if-get-ne-PENDING.false in
    let own : (numbered_row (book_in c.args.book.now) c.args.number).proposer ≡ c.args.account = omega (arith, stands.0) in
    record { waits = added_own _ _ _ _ (numbered_tabled _ c.requires.1 c.args.number c.requires.2) sound.side_low sound.side_high waits own (rw same at c.add_waiting.ensures); tells = rw same (own_alike _ _ c.args.counterparty c.args.code waits own) }
