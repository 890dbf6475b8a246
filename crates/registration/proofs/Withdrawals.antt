-- The row that a withdraw names: past the last number there is none, and up to it the row's bytes say its status and its proposer.
use Rattle.std.proofs.Common.{◌≡◌, ℕ, ◌+◌, ◌-◌, ◌<◌, Bool, true, false, ◌&&◌, eqb, List, length, refl, ◌∙◌, arith}
use Rattle.wire.specs.Numbers.{number_at}
use Rattle.rules.specs.declared.Row.{Row}
use Rattle.rules.specs.declared.Request.{Request}
use Rattle.rules.specs.Registration.{withdraws}
use Rattle.rules.proofs.Basics.Tests.{and_both}
use Rattle.rules.proofs.Rows.AccountHours.{pending_inside}
use Rattle.image.specs.Layout.{present_offset, row_offset, status_offset}
use Rattle.image.specs.Valid.{is_sound, book_in}
use Rattle.book.specs.Members.{IsRow}
use Rattle.book.proofs.StateLaws.{numbered_value_stands}

-- no row has that number
pub no_such_number : (rows : List Row) (q : Request) → length rows < q.number → withdraws rows q ≡ false
unfolding withdraws
no_such_number rows q h = go (withdraws rows q) refl
  where
    go : (t : Bool) → withdraws rows q ≡ t → withdraws rows q ≡ false
    go false e = e
    go true e =
        let high = (pending_inside rows q.number ((and_both _ _).0 e).0).1 in
        absurd (omega arith)

-- the row of that number, by the bytes at its place
pub own_pending : (s : List ℕ) (q : Request) (at status proposer : ℕ) → is_sound s ≡ true → IsRow (book_in s) q.number → at ≡ present_offset + row_offset (q.number - 1)
    → status ≡ number_at s (at + status_offset) 1 → proposer ≡ number_at s at 1
    → eqb status 1 && eqb proposer q.account ≡ withdraws (book_in s).part.rows q
unfolding withdraws
own_pending s q at status proposer h own place e f =
    let x = e ∙ numbered_value_stands s h q.number 7 (at + status_offset) own (omega arith) in
    let y = f ∙ numbered_value_stands s h q.number 0 at own (omega arith) in
    rw (x, y)
