-- What the tests of all asks share: the sums of account hours fit their bits with a row more, a margin is tested by these sums, and the
-- exposure with a pending row in is the operator's and what the row adds as a sale.
use Prim.Native.Nat.{ℕ, ◌+◌, ◌*◌, ◌≤◌, ◌<◌}
use mathlib.Core.Path.{◌≡◌, refl}
use mathlib.Core.List.{List, [], ◌∷◌}
use mathlib.Core.Bool.{Bool, true, not}
use native.Mathlib.Nat.{mul-le-mul, sub-le}
use native.Mathlib.Omega.{arith}
use Rattle.rules.specs.declared.Margins.{Margins}
use Rattle.rules.specs.declared.AccountHour.{AccountHour}
use Rattle.rules.specs.declared.Row.{Row}
use Rattle.rules.specs.Basics.{total, nil, cons}
use Rattle.rules.specs.Limits.{most_energy, most_guarantee, thousand}
use Rattle.rules.specs.Widths.{HourFits}
use Rattle.rules.specs.Books.{Setup, margins_at, maintenance_at, operator_count}
use Rattle.rules.specs.Registration.{pending, buyer, seller, account_hour, after_trade, keeps_margins, exposure, exposure_with}
use Rattle.image.specs.Valid.{is_sound, book_in}
use Rattle.image.proofs.Sound.Soundness.{SoundRow}
use Rattle.image.proofs.Tables.MoneyLaws.{moved_most, waiting_most}
use Rattle.book.specs.Members.{IsOperator}
use Rattle.book.specs.Worth.{sale_worth}
use Rattle.book.proofs.StateLaws.{book_is_sound}
use Rattle.book.proofs.WorthParts.{Listed}
use Rattle.registration.proofs.MarginLaws.{breaks_with}
use Rattle.registration.proofs.CoverLaws.{exposure-available, guarantee_stands, exposure_with-pending}
use Rattle.asks.specs.Standing.{OperatorExposures, exposures_size}

module _ (s : List ℕ) (h : is_sound s ≡ true) where
  -- an account hour has room for a row more
  pub hour_fits : (a k : ℕ) (x : AccountHour) (row : Row) → x ≡ account_hour (book_in s).part.rows a k → row.quantity.0 ≤ most_energy → HourFits x row
  hour_fits a k x row e small =
      let p = (book_is_sound s h).part_sound in
      rw e (
        omega (arith, small, moved_most buyer a k p.rows_sound p.rows_high),
        omega (arith, small, moved_most seller a k p.rows_sound p.rows_high),
        omega (arith, small, waiting_most 1 a k p.rows_sound p.rows_high),
        omega (arith, small, waiting_most 2 a k p.rows_sound p.rows_high),
      )

  -- in a book no exposure is more than the greatest guarantee makes available
  pub exposure_high : (o : ℕ) → IsOperator (book_in s) o → exposure (book_in s).setup (book_in s).part.rows o ≤ most_guarantee * thousand
  exposure_high o own =
      let fits = exposure-available s o h own in
      let high = (guarantee_stands s h o own _ refl).1 in
      omega (arith, fits, mul-le-mul high (sub-le thousand (maintenance_at (book_in s).setup o)))

  -- the exposure with a pending row in
  pub exposure_with_row : (o : ℕ) (row : Row) → SoundRow (book_in s).setup row → pending row ≡ true → (standing added sum : ℕ)
      → standing ≡ exposure (book_in s).setup (book_in s).part.rows o → added ≡ sale_worth (book_in s).setup o row → sum ≡ standing + added
      → sum ≡ exposure_with (book_in s).setup (book_in s).part.rows (row ∷ []) o
  unfolding total
  exposure_with_row o row k waits standing added sum e d f =
      exposure_with-pending s o (row ∷ []) h (cons k nil) (cons waits nil) standing added sum e (omega (arith, d)) f

  -- the exposures of the operators, listed by their numbers
  pub exposures_listed : (exposures : List ℕ) (n : ℕ) → operator_count (book_in s).setup < n
      → Listed (exposure (book_in s).setup (book_in s).part.rows) exposures_size exposures n → OperatorExposures (book_in s) exposures
  exposures_listed exposures n l t = record { whole = t.whole; exposure_at = λ o low high. t.entry o low (omega arith) }

-- the test of an hour as code makes it
pub breaks_summed : (u : Setup) (rows : List Row) (trade : Row) (a h : ℕ) (margins : Margins) (held after : AccountHour) (t : Bool)
    → margins ≡ margins_at u a h → held ≡ account_hour rows a h → after ≡ after_trade a h held trade → t ≡ keeps_margins margins after
    → breaks_with u rows (trade ∷ []) a h ≡ not t
unfolding breaks_with
breaks_summed u rows trade a h margins held after t eo eh ea et = rw (← eo, ← eh, ← ea, ← et)
