-- A row proposed: the tests of register in the order of their numbers, each on the book as it would be, and the row's 18 bytes with the
-- count as all that is written.
use Rattle.std.specs.Prelude.{Err, None, Some}
use Rattle.std.proofs.Common.{◌≡◌, ℕ, ◌+◌, ◌<◌, ◌≤◌, Bool, true, false, List, [], ◌∷◌, length, refl, sym, ap, ◌∙◌, arith}
use Rattle.rules.specs.declared.Row.{Row}
use Rattle.rules.specs.declared.Request.{Request}
use Rattle.rules.specs.declared.Refusal.TheVariants.{AlreadyPending, RowsFull, MarginBroken, Uncovered}
use Rattle.rules.specs.Basics.{any_passes, nil, cons}
use Rattle.rules.specs.Limits.{most_hours, most_rows, book_size}
use Rattle.rules.specs.Verdicts.{accepted, checked}
use Rattle.rules.specs.Books.{Book, operator_of}
use Rattle.rules.specs.Requests.{Kind, register, kind_number, wanted_map}
use Rattle.rules.specs.Registration.{alike, has_twin, twins, proposed, broken_by}
use Rattle.rules.specs.Calls.{given}
use Rattle.rules.proofs.Checks.Passed.{TradeFields, passed_15}
use Rattle.image.specs.Layout.{present_offset, row_offset}
use Rattle.image.specs.Valid.{is_sound, book_in}
use Rattle.image.proofs.Sound.Soundness.{SoundRow, sound_row, row_sound}
use Rattle.image.proofs.Writing.BookWrites.{write_row}
use Rattle.image.proofs.Keeping.KeepsChanges.{apply_keeps}
use Rattle.image.proofs.Keeping.KeepsKinds.{proposed_sound, register_allowed}
use Rattle.book.specs.Kinds.{decided, Ready}
use Rattle.book.proofs.StateLaws.{book_image, book_fits, book_is_sound}
use Rattle.book.proofs.Answers.{decided_clear, Answered, accepted_answered}
use Rattle.book.proofs.Readiness.{bare, ready_input}
use Rattle.registration.specs.Proposing.{Addable, ProposesRow, Proposing, row_appended}
use Rattle.registration.specs.Cover.{covered_with_row}
use Rattle.registration.proofs.AddingLaws as Adding

-- ---- a request that proposes a row

pub proposing_sound : (b : Book) (q : Request) → Proposing b q → SoundRow b.setup (proposed q)
proposing_sound b q p = sound_row b.setup (proposed q) p.proposes

-- one that is ready does, where its kind has the fields of a register
pub ready_fields : (k : Kind) (b : Book) (q : Request) → wanted_map (kind_number k) ≡ wanted_map (kind_number register) → Ready k b q → TradeFields q
ready_fields k b q e r = ap wanted_map r.of_kind ∙ e

pub ready_proposes : (k : Kind) (b : Book) (q : Request) → wanted_map (kind_number k) ≡ wanted_map (kind_number register) → Ready k b q → ProposesRow b q
ready_proposes k b q e r =
    row_sound b.setup (proposed q) (proposed_sound b.setup q (ready_fields k b q e r) r.code_fits r.in_range r.two_accounts)

-- ---- what the state decides

-- one request is like no other
one_alone : (q : Request) → twins (q ∷ []) ≡ false
unfolding twins any_passes
one_alone q = refl

-- a row is like it, or none is
one_standing : (rows : List Row) (q : Request) (t : Bool) → has_twin rows q ≡ t → any_passes (has_twin rows) (q ∷ []) ≡ t
unfolding any_passes
one_standing rows q true e = rw (e, any_passes)
one_standing rows q false e = rw (e, any_passes)

pub proposing : (b : Book) (q : Request) → Proposing b q → Addable b (q ∷ [])
proposing b q p =
    record {
      in_registration = p.in_registration;
      none_standing = one_standing b.part.rows q false p.no_twin;
      none_alike = one_alone q;
      has_room = omega (arith, p.has_room);
    }

module _ (b : Book) (q : Request) (first : b.phase ≡ 1) where
  -- refusal 14: a pending row has the same parties and code
  pub twin_pending : any_passes (alike q.account q.other q.code) b.part.rows ≡ true → decided register b q ≡ Some AlreadyPending
  unfolding decided
  twin_pending e = Adding.twin_pending b (q ∷ []) first (one_standing b.part.rows q true e)

  -- refusal 15: no number is left
  pub no_number_left : any_passes (alike q.account q.other q.code) b.part.rows ≡ false → most_rows ≤ length b.part.rows
      → decided register b q ≡ Some RowsFull
  unfolding decided
  no_number_left alone h = Adding.no_numbers_left b (q ∷ []) first (one_standing b.part.rows q false alone) (one_alone q) (omega arith)

  -- which is what register answers then
  pub rows_full : any_passes (alike q.account q.other q.code) b.part.rows ≡ false → most_rows ≤ length b.part.rows
      → Err RowsFull ≡ checked (decided register b q)
  rows_full alone h = ap checked (sym (no_number_left alone h))

module _ (b : Book) (q : Request) (p : Proposing b q) where
  -- refusal 18: the row breaks a margin
  pub margin_breaks : (h : ℕ) → broken_by b.setup b.part.rows (proposed q ∷ []) q.account ≡ Some h → decided register b q ≡ Some (MarginBroken h)
  unfolding decided
  margin_breaks h e = Adding.margin_breaks b (q ∷ []) (proposing b q p) h e

  module _ (kept : broken_by b.setup b.part.rows (proposed q ∷ []) q.account ≡ None) (t : Bool)
      (test : t ≡ covered_with_row b (proposed q) (operator_of b.setup q.account)) where
    -- refusal 19: the exposure is not covered
    pub row_uncovered : t ≡ false → decided register b q ≡ Some Uncovered
    unfolding decided
    row_uncovered f = Adding.rows_uncovered b (q ∷ []) (proposing b q p) kept t test f

    pub covered_with_row_lem : t ≡ true → decided register b q ≡ None
    unfolding decided
    covered_with_row_lem f = Adding.rows_covered b (q ∷ []) (proposing b q p) kept t test f

-- an accepted row has a number
pub few_rows : (b : Book) (q : Request) → decided register b q ≡ None → length b.part.rows < most_rows
few_rows b q d = omega (arith, passed_15 b (q ∷ []) register refl (decided_clear register b q d))

-- ---- what is written

pub registered_answered : (s t : List ℕ) (h : is_sound s ≡ true) (q : Request) (n : ℕ) → Ready register (book_in s) q
    → decided register (book_in s) q ≡ None → n ≡ length (book_in s).part.rows → n < most_rows
    → t ≡ row_appended s n (proposed q)
    → Answered register s q (accepted (n + 1)) t
unfolding given
registered_answered s t h q n r d e few w =
    accepted_answered register s q h t (n + 1) d (omega (arith, e))
    (w
    ∙ ap (λ (x : List ℕ). row_appended x n (proposed q)) (book_image s h)
    ∙ write_row most_hours book_size (book_in s) (book_fits s h) (proposed q) n (present_offset + row_offset n) refl e few refl)
    (apply_keeps _ (book_in s) (book_is_sound s h)
    (register_allowed (book_in s) (q ∷ []) (book_is_sound s h) bare (cons (ready_fields register (book_in s) q refl r) nil) (cons r.code_fits nil) (ready_input register (book_in s) q r bare refl) (decided_clear register (book_in s) q d)))
