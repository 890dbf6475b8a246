-- Calls on the bytes of a valid plain book are the calls on that book: they answer the same and leave the bytes of the next book. So
-- lists of calls are too (`Carries`).
use mathlib.Core.Path.{◌≡◌}
use mathlib.Core.Bool.{true}
use native.Mathlib.Omega.{arith}
use Rattle.wire.specs.Numbers.{Bytes}
use Rattle.rules.specs.Limits.{most_hours, book_size}
use Rattle.rules.specs.Books.{Book}
use Rattle.rules.specs.Calls.{Call, carried, step}
use Rattle.rules.proofs.Lists.Carrying.{Carries}
use Rattle.image.specs.Valid.{valid, is_book, book_bytes, book_in}
use Rattle.image.proofs.Sound.SoundBooks.{book_sound, valid_sound}
use Rattle.image.proofs.Round.{decode-image, image-is_book}
use Rattle.image.proofs.Keeping.Keeps.{keeps_valid}
use Rattle.day.specs.Answers.{call_answer}

module _ (b : Book) (v : valid b ≡ true) where
  pub image_says : book_in (book_bytes b) ≡ b
  image_says = decode-image most_hours book_size b (book_sound b (valid_sound b v))

  pub image_stands : is_book (book_bytes b) ≡ true
  image_stands = image-is_book most_hours book_size b (omega arith) v

  -- a call on them is the call on the book
  pub call_on_image : (c : Call) → call_answer (book_bytes b) c ≡ carried book_bytes (step b c)
  unfolding call_answer
  call_on_image c = rw (image_stands, image_says)

-- and a list of calls the list on the book
pub books_in_bytes : Carries step call_answer book_bytes (λ b. valid b ≡ true) (λ c. Bytes c.bytes)
books_in_bytes = record { keeps = λ b c. keeps_valid b c; alike = λ b c v. call_on_image b v c }
