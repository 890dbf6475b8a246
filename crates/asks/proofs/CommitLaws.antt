-- What the state refuses a commit for, in a book: 11, then 23, and nothing else; and what an accepted one writes.
use Rattle.std.specs.Prelude.{None, Some}
use Prim.Native.Nat.{ℕ, ◌+◌, ◌≤◌, ◌<◌}
use mathlib.Core.Path.{◌≡◌, refl, ap, ◌∙◌}
use mathlib.Core.List.{List, [], ◌∷◌}
use mathlib.Core.Bool.{true, false}
use native.Mathlib.Omega.{arith}
use lib.ListN.{length}
use Rattle.rules.specs.declared.Request.{Request}
use Rattle.rules.specs.declared.Refusal.TheVariants.{NoStandingAsk}
use Rattle.rules.specs.Basics.{nil, cons}
use Rattle.rules.specs.Limits.{most_accounts, most_hours, most_rows, book_size}
use Rattle.rules.specs.Verdicts.{first_to_apply, accepted}
use Rattle.rules.specs.Books.{Book, ask_at}
use Rattle.rules.specs.Requests.{commit}
use Rattle.rules.specs.Registration.{proposed, stands_with}
use Rattle.rules.specs.Calls.{given}
use Rattle.rules.specs.Asks.{asks_stand}
use Rattle.rules.proofs.Checks.Passed.{passed_15}
use Rattle.rules.proofs.Lists.Asks.{commit_passes, commit_decided}
use Rattle.image.specs.Layout.{present_offset, row_offset}
use Rattle.image.specs.Valid.{is_sound, is_book, book_in}
use Rattle.image.proofs.Sound.SoundBooks.{valid_stands}
use Rattle.image.proofs.Round.{book_is_image}
use Rattle.image.proofs.Writing.BookWrites.{write_row}
use Rattle.image.proofs.Keeping.KeepsChanges.{apply_keeps}
use Rattle.image.proofs.Keeping.KeepsKinds.{commit_allowed}
use Rattle.book.specs.Kinds.{decided, Ready}
use Rattle.book.proofs.StateLaws.{book_image, book_fits, book_is_sound}
use Rattle.book.proofs.Answers.{decided_clear, Answered, accepted_answered}
use Rattle.book.proofs.Readiness.{bare, ready_input}
use Rattle.registration.specs.Proposing.{row_appended}
use Rattle.registration.proofs.RegisterLaws.{ready_fields}

-- in a book every ask stands
pub asks_stand_lem : (s : List ℕ) → is_book s ≡ true → asks_stand (book_in s) ≡ true
asks_stand_lem s h = valid_stands (book_in s) (book_is_image most_hours book_size s h).1

module _ (b : Book) (q : Request) (stand : asks_stand b ≡ true) (counts : q.account ≤ most_accounts) where
  -- nothing else refuses it where its ask stands
  pub commit_clear : stands_with (proposed q) (ask_at b q.account) ≡ true → decided commit b q ≡ None
  unfolding decided
  commit_clear asked = commit_passes b q stand counts asked

  -- refusal 23: no such ask stands
  pub no_standing_ask : b.phase ≡ 1 → stands_with (proposed q) (ask_at b q.account) ≡ false → decided commit b q ≡ Some NoStandingAsk
  unfolding decided first_to_apply
  no_standing_ask first e = commit_decided b q stand counts ∙ rw (first, e)

-- an accepted row has a number
pub few_rows : (b : Book) (q : Request) → decided commit b q ≡ None → length b.part.rows < most_rows
few_rows b q d = omega (arith, passed_15 b (q ∷ []) commit refl (decided_clear commit b q d))

-- the row is all that is written
pub committed_answered : (s t : List ℕ) (h : is_sound s ≡ true) (q : Request) (n : ℕ) → Ready commit (book_in s) q
    → decided commit (book_in s) q ≡ None → n ≡ length (book_in s).part.rows → n < most_rows
    → t ≡ row_appended s n (proposed q)
    → Answered commit s q (accepted (n + 1)) t
unfolding given
committed_answered s t h q n r d e few w =
    accepted_answered commit s q h t (n + 1) d (omega (arith, e))
    (w
    ∙ ap (λ (x : List ℕ). row_appended x n (proposed q)) (book_image s h)
    ∙ write_row most_hours book_size (book_in s) (book_fits s h) (proposed q) n (present_offset + row_offset n) refl e few refl)
    (apply_keeps _ (book_in s) (book_is_sound s h)
    (commit_allowed (book_in s) (q ∷ []) (book_is_sound s h) bare (cons (ready_fields commit (book_in s) q refl r) nil) (cons r.code_fits nil)
    (ready_input commit (book_in s) q r bare refl) (decided_clear commit (book_in s) q d)))
