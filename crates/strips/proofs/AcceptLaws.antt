-- An accepted strip: its rows are appended, which makes the changed book, and a sound one.
use Rattle.std.specs.Prelude.{None}
use Prim.Native.Nat.{ℕ, ◌+◌, ◌≤◌}
use mathlib.Core.Path.{◌≡◌, refl, ap, ◌∙◌}
use mathlib.Core.List.{List}
use mathlib.Core.Bool.{true}
use native.Mathlib.Omega.{arith}
use lib.ListN.{length, length-map}
use Rattle.wire.specs.Numbers.{Bytes}
use Rattle.rules.specs.Limits.{most_hours, most_rows, book_size}
use Rattle.rules.specs.Verdicts.{first_to_apply, accepted, Verdict}
use Rattle.rules.specs.Books.{Book}
use Rattle.rules.specs.Requests.{strip, head_length}
use Rattle.rules.specs.Registration.{proposed}
use Rattle.rules.specs.Calls.{apply, change, changed, given, state_checks}
use Rattle.rules.proofs.Checks.Clearing.{Clear, clear}
use Rattle.rules.proofs.Checks.Passed.{passed_11, passed_14, passed_22, passed_15, passed_18, passed_19}
use Rattle.image.specs.Valid.{is_sound, book_in, book_bytes}
use Rattle.image.proofs.Sound.SoundBooks.{SoundBook, book_sound}
use Rattle.image.proofs.Round.{image-is_sound}
use Rattle.image.proofs.Keeping.KeepsParts.{requests_addable}
use Rattle.image.proofs.Keeping.KeepsChanges.{apply_keeps}
use Rattle.book.proofs.StateLaws.{book_image, book_fits, book_is_sound}
use Rattle.registration.specs.Proposing.{rows_appended}
use Rattle.registration.proofs.AppendLaws.{rows_appended_lem}
use Rattle.strips.specs.Ready.{ReadyStrip, strip_requests, proposed_rows, proposer}
use Rattle.strips.proofs.ReadyLaws.{requests_length, proposed-pending, ready_sound}

-- the answer and the bytes after a strip that is accepted on the book of the bytes s
abbrev pub StripAccepted : List ℕ → List ℕ → ℕ → Verdict → List ℕ → Type 0
StripAccepted s bytes n o t =
    (o ≡ accepted (given strip (book_in s) (strip_requests bytes n)))
    × ((t ≡ book_bytes (changed strip (book_in s) (strip_requests bytes n))) × (is_sound t ≡ true))

module _ (s bytes : List ℕ) (n : ℕ) (free : first_to_apply (state_checks (book_in s) strip (strip_requests bytes n)) ≡ None) where
  state : Clear (state_checks (book_in s) strip (strip_requests bytes n))
  state = clear (state_checks (book_in s) strip (strip_requests bytes n)) free

  -- there is a number for each row
  pub room_for_all : length (book_in s).part.rows + n ≤ most_rows
  room_for_all = omega (arith, passed_15 (book_in s) (strip_requests bytes n) strip refl state, requests_length bytes head_length n)

  module _ (h : is_sound s ≡ true) (known : Bytes bytes) (r : ReadyStrip (book_in s) bytes n) where
    next_sound : SoundBook (changed strip (book_in s) (strip_requests bytes n))
    unfolding apply
    next_sound =
        let b : Book = book_in s in
        let qs = strip_requests bytes n in
        apply_keeps (change strip b qs) b (book_is_sound s h) (
          passed_11 b qs strip state,
          requests_addable b.setup b.part (book_is_sound s h).part_sound qs (proposer bytes n) r.one_proposer (ready_sound b bytes n known r)
              (passed_14 b qs strip refl state) (passed_22 b qs strip refl state) (passed_15 b qs strip refl state)
              (passed_18 b qs strip refl state) (passed_19 b qs strip refl state),
        )

    pub strip-accepted : (count : ℕ) (t : List ℕ) → count ≡ length (book_in s).part.rows → t ≡ rows_appended s count (proposed_rows bytes n)
        → StripAccepted s bytes n (accepted (count + 1)) t
    unfolding given
    strip-accepted count t e w =
        let b : Book = book_in s in
        let lengths = length-map (strip_requests bytes n) proposed in
        let written : t ≡ book_bytes (changed strip b (strip_requests bytes n)) =
        w
        ∙ ap (λ (x : List ℕ). rows_appended x count (proposed_rows bytes n)) (book_image s h)
        ∙ rows_appended_lem b count (book_fits s h) (proposed-pending (strip_requests bytes n)) e (omega (arith, lengths, room_for_all, requests_length bytes head_length n)) in
        (ap accepted (omega (arith, e)), (written, rw written (image-is_sound most_hours book_size _ (omega arith) (book_sound _ next_sound))))
