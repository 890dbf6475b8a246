-- What an ask answers and leaves, by what the register of its fields would be refused for.
use Rattle.std.specs.Prelude.{None, Some}
use Prim.Native.Nat.{ℕ, ◌+◌}
use mathlib.Core.Path.{◌≡◌, refl, ◌∙◌}
use mathlib.Core.List.{List}
use mathlib.Core.Bool.{true}
use native.Mathlib.Omega.{arith}
use lib.ListN.{length}
use Rattle.rules.specs.declared.Request.{Request}
use Rattle.rules.specs.declared.Refusal.{Refusal}
use Rattle.rules.specs.Verdicts.{accepted, refused}
use Rattle.rules.specs.Books.{Book}
use Rattle.rules.specs.Requests.{register, ask}
use Rattle.rules.specs.Registration.{proposed}
use Rattle.rules.specs.Calls.{apply, stand_ask, given}
use Rattle.image.specs.Valid.{row_ok, is_sound, book_in, book_bytes}
use Rattle.image.proofs.Sound.Soundness.{sound_row}
use Rattle.image.proofs.Keeping.KeepsChanges.{apply_keeps}
use Rattle.book.specs.Kinds.{decided}
use Rattle.book.proofs.StateLaws.{book_is_sound}
use Rattle.book.proofs.Answers.{Answered, refused_answered, accepted_answered}

-- an ask is decided as its register
as_register_lem : (b : Book) (q : Request) → decided ask b q ≡ decided register b q
unfolding decided
as_register_lem b q = refl

module _ (s : List ℕ) (q : Request) (h : is_sound s ≡ true) where
  -- a refusal changes nothing
  pub ask_refused : (r : Refusal) → decided register (book_in s) q ≡ Some r → Answered ask s q (refused r) s
  ask_refused r e = refused_answered ask s q h r (as_register_lem (book_in s) q ∙ e)

  -- an accepted one stands
  pub ask_accepted : (t : List ℕ) (n : ℕ) → decided register (book_in s) q ≡ None → row_ok (book_in s).setup (proposed q) ≡ true
      → n ≡ length (book_in s).part.rows → t ≡ book_bytes (apply (stand_ask (proposed q)) (book_in s)) → Answered ask s q (accepted (n + 1)) t
  unfolding given
  ask_accepted t n e row count w =
      accepted_answered ask s q h t (n + 1) (as_register_lem (book_in s) q ∙ e) (omega (arith, count)) w
      (apply_keeps (stand_ask (proposed q)) (book_in s) (book_is_sound s h) (record { own = refl; waits = refl; row_sound = sound_row _ _ row }))
