-- A row whose proposer has another operator adds nothing, and any other row is read whole.
use mathlib.Core.Path.{sym, ◌∙◌}
use native.Mathlib.Omega.{arith}
use Rattle.book.proofs.StateLaws.{book_length, row_count_high, numbered_row_stands}
use Rattle.book.proofs.BookRows.{numbered_sound}
use Rattle.book.proofs.WaitLaws.{own_stands}
use Rattle.book.proofs.WorthParts.{operator_listed}
use Rattle.book.proofs.HourlyLaws.{sale_of_own, sale_of_others}
use Rattle.book.proofs.hourly.sale_of_row.Goals as goal

pub row_offset-at-requires : goal.row_offset-at-requires
row_offset-at-requires c = omega (arith, c.requires.1, row_count_high _ c.requires.0.is_sound)

pub get-requires : goal.get-requires
get-requires c =
    omega (arith, c.requires.1, c.row_offset-at.ensures, row_count_high _ c.requires.0.is_sound, book_length _ c.requires.0.is_sound)

pub bounds-operators-get : goal.bounds-operators-get
bounds-operators-get c =
    let same = c.get.ensures ∙ (own_stands _ c.requires.0.is_sound c.args.number _ c.requires.1 c.row_offset-at.ensures).0 in
    let sound = numbered_sound _ c.requires.0.is_sound c.args.number c.requires.1 in
    operator_listed _ _ _ c.requires.0.is_sound c.requires.0.account_operators (rw same sound.proposer_low, rw same sound.proposer_high)

pub returns-then-operators-get : goal.returns-then-operators-get
returns-then-operators-get c =
    let same = c.get.ensures ∙ (own_stands _ c.requires.0.is_sound c.args.number _ c.requires.1 c.row_offset-at.ensures).0 in
    let sound = numbered_sound _ c.requires.0.is_sound c.args.number c.requires.1 in
    let own = c.requires.0.account_operators.operator _ sound.proposer_low sound.proposer_high in
    record { meaning = sym (sale_of_others _ c.args.operator c.args.hour _ _ own (rw same at c.if-operators-get.true)); bounded = omega arith }

pub row_at-r-requires : goal.row_at-r-requires
row_at-r-requires c =
    omega (arith, c.requires.1, c.row_offset-at.ensures, row_count_high _ c.requires.0.is_sound, book_length _ c.requires.0.is_sound)

pub returns : goal.returns
returns c =
    let row = c.row_at-r.ensures ∙ numbered_row_stands _ c.requires.0.is_sound c.args.number _ c.requires.1 c.row_offset-at.ensures in
    let same = c.get.ensures ∙ (own_stands _ c.requires.0.is_sound c.args.number _ c.requires.1 c.row_offset-at.ensures).0 in
    let sound = numbered_sound _ c.requires.0.is_sound c.args.number c.requires.1 in
    let own = c.requires.0.account_operators.operator _ sound.proposer_low sound.proposer_high in
    let asked = rw row at c.waiting.ensures in
    record { meaning = sale_of_own _ c.args.operator c.args.hour _ _ _ own (rw same at c.if-operators-get.false) asked.meaning; bounded = omega (arith, asked.bounded, sound.quantity_high) }
