-- What a call answers on the bytes of a sound book: a refusal leaves them as they are, the image of the same book, and an acceptance makes
-- them the image of the changed one, which is sound.
use Rattle.std.specs.Prelude.{None, Some}
use Prim.Native.Nat.{ℕ}
use mathlib.Core.Path.{◌≡◌, refl, ◌∙◌}
use mathlib.Core.List.{List, [], ◌∷◌}
use mathlib.Core.Bool.{true}
use native.Mathlib.Omega.{arith}
use borrow.Author.Tests.{ne_eqb}
use Rattle.rules.specs.declared.Request.{Request}
use Rattle.rules.specs.declared.Refusal.{Refusal}
use Rattle.rules.specs.declared.Refusal.TheVariants.{WrongPhase}
use Rattle.rules.specs.Limits.{most_hours, book_size}
use Rattle.rules.specs.Verdicts.{first_to_apply, accepted, refused, Verdict}
use Rattle.rules.specs.Books.{Book}
use Rattle.rules.specs.Requests.{Kind, register, confirm, withdraw, guarantee, open_batch, undo, keep, close_gate, schedule, settle, strip, ask, commit, request_of}
use Rattle.rules.specs.Calls.{phase_of, checked_as, state_checks, changed, given}
use Rattle.rules.proofs.Checks.Clearing.{Clear, clear}
use Rattle.image.specs.Valid.{is_sound, book_in, book_bytes}
use Rattle.image.proofs.Sound.SoundBooks.{SoundBook, book_sound}
use Rattle.image.proofs.Round.{image-is_sound}
use Rattle.book.specs.Kinds.{decided, outcome_on, book_after}
use Rattle.book.proofs.StateLaws.{book_image}

-- where nothing is decided every check passed
pub decided_clear : (k : Kind) (b : Book) (q : Request) → decided k b q ≡ None → Clear (state_checks b (checked_as k) (q ∷ []))
unfolding decided
decided_clear k b q e = clear (state_checks b (checked_as k) (q ∷ [])) e

-- an ask and its register have one phase
phase_checked : (k : Kind) → phase_of (checked_as k) ≡ phase_of k
phase_checked register = refl
phase_checked confirm = refl
phase_checked withdraw = refl
phase_checked guarantee = refl
phase_checked open_batch = refl
phase_checked undo = refl
phase_checked keep = refl
phase_checked close_gate = refl
phase_checked schedule = refl
phase_checked settle = refl
phase_checked strip = refl
phase_checked ask = refl
phase_checked commit = refl

-- 11, of every kind
pub in_wrong_phase : (b : Book) (q : Request) (k : Kind) → (b.phase ≡ phase_of k → ⊥) → decided k b q ≡ Some WrongPhase
unfolding decided state_checks first_to_apply
in_wrong_phase b q k n = rw (ne_eqb _ _ (λ e. n (e ∙ phase_checked k)))

-- a call of that kind on a book's bytes s answers o and leaves the bytes t, of a sound book again
abbrev pub Answered : Kind → List ℕ → Request → Verdict → List ℕ → Type 0
Answered k s q o t =
    (o ≡ outcome_on k (book_in s) q) × ((t ≡ book_bytes (book_after k (book_in s) q)) × (is_sound t ≡ true))

module _ (k : Kind) (s : List ℕ) (q : Request) (h : is_sound s ≡ true) where
  -- a refusal changes nothing
  pub refused_answered : (r : Refusal) → decided k (book_in s) q ≡ Some r → Answered k s q (refused r) s
  unfolding outcome_on book_after
  refused_answered r e = (rw e, (rw e (book_image s h), h))

  -- an acceptance that wrote the changed book
  pub accepted_answered : (t : List ℕ) (n : ℕ) → decided k (book_in s) q ≡ None → n ≡ given k (book_in s) (q ∷ [])
      → t ≡ book_bytes (changed k (book_in s) (q ∷ [])) → SoundBook (changed k (book_in s) (q ∷ [])) → Answered k s q (accepted n) t
  unfolding outcome_on book_after
  accepted_answered t n e g w sound =
      (rw (e, g), (rw (e, w), rw w (image-is_sound most_hours book_size _ (omega arith) (book_sound _ sound))))

-- the same of a kind that looks at its kind only: on every request
abbrev pub AnsweredAll : Kind → List ℕ → Verdict → List ℕ → Type 0
AnsweredAll k s o t =
    ((q : Request) → o ≡ outcome_on k (book_in s) q)
    × (((q : Request) → t ≡ book_bytes (book_after k (book_in s) q)) × (is_sound t ≡ true))

pub answered_all : (k : Kind) (s : List ℕ) (o : Verdict) (t : List ℕ) → ((q : Request) → Answered k s q o t) → AnsweredAll k s o t
answered_all k s o t f = ((λ q. (f q).0), ((λ q. (f q).1.0), (f (request_of [])).1.1))

pub refused_all : (k : Kind) (s : List ℕ) (r : Refusal) → is_sound s ≡ true → ((q : Request) → decided k (book_in s) q ≡ Some r)
    → AnsweredAll k s (refused r) s
refused_all k s r h d = answered_all k s (refused r) s (λ q. refused_answered k s q h r (d q))
