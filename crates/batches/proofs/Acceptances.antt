-- What an accepted call of each kind writes: the bytes are the image of the book, so that the write laws of images apply, and the
-- checks that it passed keep the book sound.
use Rattle.std.specs.Prelude.{None}
use Prim.Native.Nat.{ℕ, ◌+◌, ◌-◌}
use mathlib.Core.Path.{◌≡◌, refl, ap, ◌∙◌}
use mathlib.Core.List.{List, [], ◌∷◌}
use mathlib.Core.Bool.{true}
use native.Mathlib.Omega.{arith}
use lib.ListN.{length}
use Rattle.wire.specs.Numbers.{le}
use Rattle.wire.specs.Regions.{splice}
use Rattle.wire.specs.Parts.{sweep}
use Rattle.rules.specs.declared.Request.{Request}
use Rattle.rules.specs.Limits.{most_hours, book_size}
use Rattle.rules.specs.Verdicts.{accepted}
use Rattle.rules.specs.Requests.{open_batch, undo, keep, close_gate}
use Rattle.rules.specs.Calls.{restored, given, save_part, restore_part, drop_saved, shut_gate}
use Rattle.rules.proofs.Checks.Passed.{passed_11, passed_12, passed_13}
use Rattle.image.specs.Layout.{row_width, phase_offset, present_offset, saved_offset, row_offset}
use Rattle.image.specs.Valid.{is_sound, book_in}
use Rattle.image.specs.Changes.{ended}
use Rattle.image.proofs.Writing.Sizes.{statuses_small}
use Rattle.image.proofs.Writing.BookWrites.{write_saved, write_restored, write_dropped, write_closed}
use Rattle.image.proofs.Keeping.KeepsChanges.{apply_keeps}
use Rattle.book.specs.Kinds.{decided}
use Rattle.book.proofs.StateLaws.{book_image, book_fits, book_is_sound}
use Rattle.book.proofs.Answers.{decided_clear, AnsweredAll, accepted_answered, answered_all}
use Rattle.batches.specs.Rooms.{part_copied}
use Rattle.batches.specs.Saving.{batch_opened, batch_ended}

module _ (s t : List ℕ) (h : is_sound s ≡ true) where
  -- 5: the present part copied over the saved one, and the flag
  pub opened_answered : ((q : Request) → decided open_batch (book_in s) q ≡ None)
      → t ≡ batch_opened s → AnsweredAll open_batch s (accepted 0) t
  unfolding given
  opened_answered d e =
      answered_all open_batch s (accepted 0) t (λ q. accepted_answered open_batch s q h t 0 (d q) refl
      (e
      ∙ ap batch_opened (book_image s h)
      ∙ write_saved most_hours book_size (book_in s) (book_fits s h) (omega arith))
      (apply_keeps save_part (book_in s) (book_is_sound s h) (passed_11 (book_in s) (q ∷ []) open_batch (decided_clear open_batch (book_in s) q (d q)))))

  -- 6: the saved part copied over the present one and cleared, and the flag
  pub undone_answered : (n : ℕ) → ((q : Request) → decided undo (book_in s) q ≡ None)
      → n ≡ length (book_in s).part.rows - length (restored (book_in s).saved (book_in s).part).rows
      → t ≡ batch_ended (part_copied s (saved_offset most_hours) present_offset) → AnsweredAll undo s (accepted n) t
  unfolding given
  undone_answered n d g e =
      answered_all undo s (accepted n) t (λ q.
      let clear = decided_clear undo (book_in s) q (d q) in
      let (p, saved) = passed_13 (book_in s) (q ∷ []) undo refl clear in
      accepted_answered undo s q h t n (d q) g
      (e
      ∙ ap (λ (x : List ℕ). batch_ended (part_copied x (saved_offset most_hours) present_offset)) (book_image s h)
      ∙ write_restored most_hours book_size (book_in s) (book_fits s h) p (omega arith) saved)
      (apply_keeps restore_part (book_in s) (book_is_sound s h) (passed_11 (book_in s) (q ∷ []) undo clear)))

  -- 7: the saved part cleared, and the flag
  pub kept_answered : ((q : Request) → decided keep (book_in s) q ≡ None) → t ≡ batch_ended s → AnsweredAll keep s (accepted 0) t
  unfolding given
  kept_answered d e =
      answered_all keep s (accepted 0) t (λ q. accepted_answered keep s q h t 0 (d q) refl
      (e
      ∙ ap batch_ended (book_image s h)
      ∙ write_dropped most_hours book_size (book_in s) (book_fits s h))
      (apply_keeps drop_saved (book_in s) (book_is_sound s h) (passed_11 (book_in s) (q ∷ []) keep (decided_clear keep (book_in s) q (d q)))))

  -- 8: a loop over the rows, and the phase
  pub closed_answered : (n : ℕ) → ((q : Request) → decided close_gate (book_in s) q ≡ None) → n ≡ length (book_in s).part.rows
      → t ≡ splice (sweep ended row_width s (present_offset + row_offset 0) n) phase_offset (le 1 2)
      → AnsweredAll close_gate s (accepted 0) t
  unfolding given
  closed_answered n d count e =
      answered_all close_gate s (accepted 0) t (λ q. accepted_answered close_gate s q h t 0 (d q) refl
      (e
      ∙ ap (λ (x : List ℕ). splice (sweep ended row_width x (present_offset + row_offset 0) n) phase_offset (le 1 2)) (book_image s h)
      ∙ write_closed most_hours book_size (book_in s) (book_fits s h) n (present_offset + row_offset 0) count
      (statuses_small (book_is_sound s h).part_sound.rows_sound) refl)
      (apply_keeps shut_gate (book_in s) (book_is_sound s h) (passed_12 (book_in s) (q ∷ []) close_gate refl (decided_clear close_gate (book_in s) q (d q)))))
