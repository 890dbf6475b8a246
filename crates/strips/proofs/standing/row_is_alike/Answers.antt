-- The first byte of a row is its proposer and the last its status; of a pending row of the account its counterparty and code decide.
use mathlib.Core.Path.{◌∙◌, sym}
use native.Mathlib.Omega.{arith}
use Rattle.book.proofs.StateLaws.{book_length, row_count_high, numbered_row_stands}
use Rattle.book.proofs.WaitLaws.{own_stands}
use Rattle.strips.proofs.StandingLaws.{others_none, ended_none, own_among}
use Rattle.strips.proofs.standing.row_is_alike.Goals as goal

pub row_offset-at-requires : goal.row_offset-at-requires
row_offset-at-requires c = omega (arith, c.requires.1, row_count_high _ c.requires.0)

pub get-requires : goal.get-requires
get-requires c =
    omega (arith, c.requires.1, c.row_offset-at.ensures, row_count_high _ c.requires.0, book_length _ c.requires.0)

pub returns-then-get-account : goal.returns-then-get-account
returns-then-get-account c =
    let stands = own_stands _ c.requires.0 c.args.number _ c.requires.1 c.row_offset-at.ensures in
    others_none _ _ _ _ (c.get.ensures ∙ stands.0) c.if-get-account.true

pub get-requires-2 : goal.get-requires-2
get-requires-2 c =
    omega (arith, c.requires.1, c.row_offset-at.ensures, row_count_high _ c.requires.0, book_length _ c.requires.0)

pub returns-then-get-ne-PENDING : goal.returns-then-get-ne-PENDING
returns-then-get-ne-PENDING c =
    let stands = own_stands _ c.requires.0 c.args.number _ c.requires.1 c.row_offset-at.ensures in
    ended_none _ c.args.account _ _ (c.get-2.ensures ∙ stands.1) c.if-get-ne-PENDING.true

pub row_at-r-requires : goal.row_at-r-requires
row_at-r-requires c =
    omega (arith, c.requires.1, c.row_offset-at.ensures, row_count_high _ c.requires.0, book_length _ c.requires.0)

pub returns : goal.returns
returns c =
    let same = c.row_at-r.ensures ∙ numbered_row_stands _ c.requires.0 c.args.number _ c.requires.1 c.row_offset-at.ensures in
    let stands = own_stands _ c.requires.0 c.args.number _ c.requires.1 c.row_offset-at.ensures in
    let waits = sym (c.get-2.ensures ∙ stands.1) ∙ c.if-get-ne-PENDING.false in
    let own = sym (c.get.ensures ∙ stands.0) ∙ c.if-get-account.false in
    (rw same at c.has_code.ensures) ∙ own_among _ _ _ waits own
