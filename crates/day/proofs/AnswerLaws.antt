-- A call on any bytes: on a book it is the call on the plain book that the bytes say, and leaves a book; where it is refused every lent
-- byte is as it was.
use Prim.Native.Nat.{ℕ}
use mathlib.Core.Path.{◌≡◌, refl, sym, ap, ◌∙◌}
use mathlib.Core.Logic.{◌⊎◌, inl, inr}
use mathlib.Core.List.{List}
use mathlib.Core.Bool.{Bool, true, false}
use Rattle.wire.specs.Numbers.{Bytes}
use Rattle.rules.specs.declared.Refusal.{Refusal}
use Rattle.rules.specs.declared.Refusal.TheVariants.{NotABook}
use Rattle.rules.specs.Verdicts.{refused}
use Rattle.rules.specs.Limits.{most_hours, book_size}
use Rattle.rules.specs.Calls.{Call, Answer, carried, refused_on, step}
use Rattle.rules.proofs.Checks.Clearing.{never_both}
use Rattle.rules.proofs.Checks.Passed.{Passed, Kept, step_cases}
use Rattle.image.specs.Valid.{book_bytes, is_book, book_in}
use Rattle.image.proofs.Keeping.Keeps.{keeps_valid}
use Rattle.image.proofs.Round.{book_is_image}
use Rattle.day.specs.Answers.{call_answer}
use Rattle.day.proofs.Images.{image_stands}

module _ (s : List ℕ) (c : Call) where
  pub call_on_book : is_book s ≡ true → call_answer s c ≡ carried book_bytes (step (book_in s) c)
  unfolding call_answer
  call_on_book h = rw h

  pub call_on_no_book : is_book s ≡ false → call_answer s c ≡ refused_on NotABook s c
  unfolding call_answer
  call_on_no_book h = rw h

  -- a call leaves a book where it found one
  pub call_leaves_a_book : is_book s ≡ true → Bytes c.bytes → is_book (call_answer s c).book ≡ true
  call_leaves_a_book h bytes =
      let v = (book_is_image most_hours book_size s h).1 in
      ap (λ (x : Answer (List ℕ)). is_book x.book) (call_on_book h) ∙ image_stands (step (book_in s) c).book (keeps_valid (book_in s) c bytes v)

  refused_on_book : is_book s ≡ true → (r : Refusal) → (step (book_in s) c).outcome ≡ refused r → Kept (book_in s) c ⊎ Passed (book_in s) c
      → call_answer s c ≡ refused_on r s c
  refused_on_book h r e (inl kept) =
      call_on_book h ∙ rw (e, kept.book, kept.results, kept.balances, ← (book_is_image most_hours book_size s h).0)
  refused_on_book h r e (inr passed) = absurd (never_both r _ (sym e ∙ passed.outcome))

  refused_go : (t : Bool) → is_book s ≡ t → (r : Refusal) → (call_answer s c).outcome ≡ refused r → call_answer s c ≡ refused_on r s c
  refused_go true h r e =
      refused_on_book h r (ap (λ (x : Answer (List ℕ)). x.outcome) (sym (call_on_book h)) ∙ e) (step_cases (book_in s) c)
  refused_go false h r e =
      let outcome : refused NotABook ≡ refused r = ap (λ (x : Answer (List ℕ)). x.outcome) (sym (call_on_no_book h)) ∙ e in
      call_on_no_book h ∙ rw outcome

  -- a refused call changes no lent byte, whatever the bytes are
  pub refused_changes_nothing : (r : Refusal) → (call_answer s c).outcome ≡ refused r → call_answer s c ≡ refused_on r s c
  refused_changes_nothing r e = refused_go (is_book s) refl r e
