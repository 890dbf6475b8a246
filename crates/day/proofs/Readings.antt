-- Every reading of a book reads out as that of a ledger that agrees with it: in range by the sums in which they agree, out of range by the
-- set-up that they share.
use Prim.Native.Nat.{ℕ}
use mathlib.Core.Path.{◌≡◌, refl}
use mathlib.Core.Bool.{Bool, true, false}
use Rattle.rules.specs.Basics.{within}
use Rattle.rules.specs.Verdicts.{first_to_apply}
use Rattle.rules.specs.Books.{Book, account_count, operator_count, periods}
use Rattle.rules.specs.Readings.{net_reading, net_read_out, exposure_reading, hourly_exposure_reading, exposure_read_out}
use Rattle.rules.specs.Ledger.{Ledger, ledger_net}
use Rattle.rules.proofs.Rows.SignedReading.{position-figure}
use Rattle.rules.proofs.Ledgers.Agreement.{Agrees}
use Rattle.rules.proofs.Ledgers.LedgerReadings.{net_read_is_the_ledgers, exposure_read_is_the_ledgers, hourly_exposure_read_is_the_ledgers}
use Rattle.image.specs.Valid.{valid, book_bytes}
use Rattle.book.specs.Answers.{net_answer, exposure_answer, hourly_exposure_answer}
use Rattle.day.specs.Readings.{ledger_net_read_out, ledger_exposure_read_out, ledger_hourly_exposure_read_out}
use Rattle.day.proofs.Images.{image_says, image_stands}

module _ (b : Book) (l : Ledger) (g : Agrees b l) where
  net_reading_agrees : (a h : ℕ) → net_read_out (net_reading b a h) ≡ ledger_net_read_out l a h
  unfolding net_reading first_to_apply ledger_net_read_out
  net_reading_agrees a h = go (within 1 a (account_count l.setup)) (within 1 h (periods l.setup)) refl refl
    where
      go : (s t : Bool) → within 1 a (account_count l.setup) ≡ s → within 1 h (periods l.setup) ≡ t
          → net_read_out (net_reading b a h) ≡ ledger_net_read_out l a h
      go true true e f = rw (e, f, net_read_is_the_ledgers b l g a h e f, position-figure (ledger_net l a h))
      go true false e f = rw (g.setup, e, f)
      go false t e f = rw (g.setup, e)

  exposure_reading_agrees : (o : ℕ) → exposure_read_out (exposure_reading b o) ≡ ledger_exposure_read_out l o
  unfolding exposure_reading first_to_apply ledger_exposure_read_out
  exposure_reading_agrees o = go (within 1 o (operator_count l.setup)) refl
    where
      go : (t : Bool) → within 1 o (operator_count l.setup) ≡ t → exposure_read_out (exposure_reading b o) ≡ ledger_exposure_read_out l o
      go true e = rw (e, exposure_read_is_the_ledgers b l g o e)
      go false e = rw (g.setup, e)

  hourly_exposure_reading_agrees : (o h : ℕ) → exposure_read_out (hourly_exposure_reading b o h) ≡ ledger_hourly_exposure_read_out l o h
  unfolding hourly_exposure_reading first_to_apply ledger_hourly_exposure_read_out
  hourly_exposure_reading_agrees o h = go (within 1 h (periods l.setup)) (within 1 o (operator_count l.setup)) refl refl
    where
      go : (s t : Bool) → within 1 h (periods l.setup) ≡ s → within 1 o (operator_count l.setup) ≡ t
          → exposure_read_out (hourly_exposure_reading b o h) ≡ ledger_hourly_exposure_read_out l o h
      go true true e f = rw (e, f, hourly_exposure_read_is_the_ledgers b l g o h f e)
      go true false e f = rw (g.setup, e, f)
      go false t e f = rw (g.setup, e)

  -- on the bytes of a valid book
  module _ (v : valid b ≡ true) where
    pub net_answer_agrees : (a h : ℕ) → net_read_out (net_answer (book_bytes b) a h) ≡ ledger_net_read_out l a h
    unfolding net_answer
    net_answer_agrees a h = rw (image_stands b v, image_says b v) (net_reading_agrees a h)

    pub exposure-answer_agrees : (o : ℕ) → exposure_read_out (exposure_answer (book_bytes b) o) ≡ ledger_exposure_read_out l o
    unfolding exposure_answer
    exposure-answer_agrees o = rw (image_stands b v, image_says b v) (exposure_reading_agrees o)

    pub hourly-exposure-answer_agrees : (o h : ℕ) → exposure_read_out (hourly_exposure_answer (book_bytes b) o h) ≡ ledger_hourly_exposure_read_out l o h
    unfolding hourly_exposure_answer
    hourly-exposure-answer_agrees o h = rw (image_stands b v, image_says b v) (hourly_exposure_reading_agrees o h)
