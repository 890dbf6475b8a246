-- What an accepted confirm or withdraw writes: the bytes are the image of the book, so that the write laws of images apply, and the
-- checks that it passed keep the book sound.
use Rattle.std.specs.Prelude.{None, Some}
use Rattle.std.proofs.Common.{◌≡◌, ℕ, suc, ◌+◌, ◌-◌, ◌≤◌, true, List, [], ◌∷◌, get_or, sym, refl, ap, ◌∙◌, add-one, arith}
use Rattle.wire.specs.Numbers.{le}
use Rattle.wire.specs.Regions.{splice}
use Rattle.rules.specs.declared.Row.{Row}
use Rattle.rules.specs.declared.Request.{Request}
use Rattle.rules.specs.Limits.{most_hours, book_size}
use Rattle.rules.specs.Verdicts.{accepted}
use Rattle.rules.specs.Basics.{nth}
use Rattle.rules.specs.Books.{Book, no_row}
use Rattle.rules.specs.Registration.{pending, confirms}
use Rattle.rules.specs.Requests.{confirm, withdraw}
use Rattle.rules.specs.Calls.{confirmed_number, given}
use Rattle.rules.proofs.Rows.RowTests.{passed_confirm, passed_withdraw}
use Rattle.rules.proofs.Rows.AccountHours.{pending_inside}
use Rattle.rules.proofs.Basics.Searches.{each_nth}
use Rattle.image.specs.Layout.{present_offset, row_offset, status_offset}
use Rattle.image.specs.Valid.{is_sound, book_in}
use Rattle.image.proofs.Writing.Sizes.{RowFits, row_fits_of}
use Rattle.image.proofs.Writing.BookWrites.{write_confirmed, write_withdrawn}
use Rattle.image.proofs.Keeping.KeepsChanges.{apply_keeps}
use Rattle.image.proofs.Keeping.KeepsKinds.{confirm_allowed, withdraw_allowed}
use Rattle.book.specs.Kinds.{decided}
use Rattle.book.proofs.StateLaws.{book_image, book_fits, book_is_sound}
use Rattle.book.proofs.Answers.{decided_clear, Answered, accepted_answered}
use Rattle.registration.specs.Positions.{nets_moved, marked_confirmed}

module _ (s t : List ℕ) (h : is_sound s ≡ true) where
  -- 2: the row's status, the hours of its seller, those of its buyer
  pub confirmed_answered : (q : Request) (i : ℕ) (r : Row) → decided confirm (book_in s) q ≡ None → confirms (book_in s).part.rows q ≡ Some i
      → r ≡ get_or (book_in s).part.rows i no_row → r.first ≤ r.last → t ≡ nets_moved (marked_confirmed s (i + 1)) r
      → Answered confirm s q (accepted (i + 1)) t
  unfolding given
  confirmed_answered q i r d named row order e =
      let b : Book = book_in s in
      let sound = book_is_sound s h in
      let clear = decided_clear confirm b q d in
      let w = passed_confirm b (q ∷ []) clear in
      let number : confirmed_number b q ≡ suc i = rw named in
      let here : r ≡ nth b.part.rows (confirmed_number b q) no_row = rw number row in
      let pend : pending r ≡ true = rw here w.row.is_pending in
      let setup = sound.setup_sound in
      let fit : RowFits most_hours r =
      rw here (row_fits_of most_hours b.setup _ setup.accounts_high setup.hours_high
      (each_nth no_row (confirmed_number b q) sound.part_sound.rows_sound w.low w.high)) in
      accepted_answered confirm s q h t (i + 1) d (add-one i ∙ sym number)
      (e
      ∙ ap (λ (x : List ℕ). nets_moved (marked_confirmed x (i + 1)) r) (book_image s h)
      ∙ write_confirmed most_hours book_size b (book_fits s h) (confirmed_number b q) i (r.last - r.first + 1) (present_offset + row_offset (i + 1 - 1) + status_offset) _ _ r
      number here pend fit (omega arith) (omega arith) refl refl)
      (apply_keeps _ b sound (confirm_allowed b (q ∷ []) sound clear))

  -- 3: the row's status
  pub withdrawn_answered : (q : Request) (at : ℕ) → decided withdraw (book_in s) q ≡ None → at ≡ present_offset + row_offset (q.number - 1) + status_offset
      → t ≡ splice s at (le 1 3) → Answered withdraw s q (accepted 0) t
  unfolding given
  withdrawn_answered q at d place e =
      let clear = decided_clear withdraw (book_in s) q d in
      let pend = (passed_withdraw (book_in s) (q ∷ []) clear).0 in
      let low = (pending_inside (book_in s).part.rows q.number pend).0 in
      accepted_answered withdraw s q h t 0 d refl
      (e
      ∙ ap (λ (x : List ℕ). splice x at (le 1 3)) (book_image s h)
      ∙ write_withdrawn most_hours book_size (book_in s) (book_fits s h) q.number (q.number - 1) at (omega arith) pend place)
      (apply_keeps _ (book_in s) (book_is_sound s h) (withdraw_allowed (book_in s) (q ∷ []) (book_is_sound s h) clear))
