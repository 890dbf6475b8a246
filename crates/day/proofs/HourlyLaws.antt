-- What the readings by hour give, added in any order of the hours, is what the reading of exposure gives: on all bytes, of every operator.
use Prim.Native.Nat.{ℕ}
use mathlib.Core.Path.{◌≡◌, refl, sym, ◌∙◌}
use mathlib.Core.List.{List, Perm}
use mathlib.Core.Bool.{Bool, true, false}
use Rattle.rules.specs.Basics.{total, up_to, within}
use Rattle.rules.specs.Verdicts.{first_to_apply}
use Rattle.rules.specs.Books.{Book, estimate_at, operator_count, periods}
use Rattle.rules.specs.Registration.{account_hour, hourly_exposure}
use Rattle.rules.specs.Readings.{exposure_reading, hourly_exposure_reading, money_read}
use Rattle.rules.proofs.Basics.Tests.{within_true}
use Rattle.rules.proofs.Basics.Totals.{total_zero, total_up_to, total_rearranged}
use Rattle.rules.proofs.Rows.Arrangement.{hours_total}
use Rattle.image.specs.Valid.{is_book, book_in}
use Rattle.book.specs.Answers.{exposure_answer, hourly_exposure_answer}

-- the hours of a book
abbrev hours : Book → List ℕ
hours b = up_to (periods b.setup)

module _ (b : Book) (o : ℕ) where
  book_readings : total (λ h. money_read (hourly_exposure_reading b o h)) (hours b) ≡ money_read (exposure_reading b o)
  unfolding hourly_exposure_reading exposure_reading first_to_apply
  book_readings = go (within 1 o (operator_count b.setup)) refl
    where
      go : (t : Bool) → within 1 o (operator_count b.setup) ≡ t
          → total (λ h. money_read (hourly_exposure_reading b o h)) (hours b) ≡ money_read (exposure_reading b o)
      go true e =
          total_up_to _ (hourly_exposure b.setup b.part.rows o) (periods b.setup)
          (λ h low high. rw ((within_true 1 h (periods b.setup)).1 (low, high), e))
          ∙ hours_total b.setup (estimate_at b.setup) (account_hour b.part.rows) o
          ∙ rw e
      go false e =
          total_up_to _ (λ h. 0) (periods b.setup) (λ h low high. rw ((within_true 1 h (periods b.setup)).1 (low, high), e))
          ∙ total_zero (hours b)
          ∙ rw e

module _ (s : List ℕ) (o : ℕ) where
  all_hours : total (λ h. money_read (hourly_exposure_answer s o h)) (hours (book_in s)) ≡ money_read (exposure_answer s o)
  unfolding hourly_exposure_answer exposure_answer
  all_hours = go (is_book s) refl
    where
      go : (t : Bool) → is_book s ≡ t
          → total (λ h. money_read (hourly_exposure_answer s o h)) (hours (book_in s)) ≡ money_read (exposure_answer s o)
      go true e = rw e (book_readings (book_in s) o)
      go false e = rw e (total_zero (hours (book_in s)))

  pub readings_by_hour : (arranged : List ℕ) → Perm (hours (book_in s)) arranged
      → total (λ h. money_read (hourly_exposure_answer s o h)) arranged ≡ money_read (exposure_answer s o)
  readings_by_hour arranged p = sym (total_rearranged (λ h. money_read (hourly_exposure_answer s o h)) p) ∙ all_hours
