-- Readings, of any book in any phase: a net position by account and hour, an exposure by operator (document 01, "Registration"), an
-- hourly exposure by operator and hour (document 02, note 5).
use Rattle.std.specs.Prelude.{ℕ, ◌-◌, List, [], ◌∷◌, not, ltb, ℤ, pos, neg_ℤ, if◌then◌else◌, Ok, Err, Option, None, Some}
use Rattle.units.specs.declared.MilliCents.{MilliCents}
use Rattle.units.specs.Units.{kwh, milli_cents}
use Rattle.rules.specs.declared.Net.{Net}
use Rattle.rules.specs.declared.Position.{Position}
use Rattle.rules.specs.declared.Position.TheVariants.{Long, Short}
use Rattle.rules.specs.declared.Refusal.{Refusal}
use Rattle.rules.specs.declared.Refusal.TheVariants.{OutOfRange}
use Rattle.rules.specs.Basics.{within}
use Rattle.rules.specs.Verdicts.{ReadOut, read_out, not_read, Check, ◌⇒◌, first_to_apply, Reading}
use Rattle.rules.specs.Books.{Book, account_count, operator_count, periods}
use Rattle.rules.specs.Registration.{net_of, exposure, hourly_exposure}

-- a net position with its sign
unfoldable pub position : Net → Position
position n =
    if ltb n.bought.0 n.sold.0
    then Short (kwh (n.sold.0 - n.bought.0))
    else Long (kwh (n.bought.0 - n.sold.0))

-- the figure that it stands for: long is plus, short is minus
abbrev pub position_figure : Position → ℤ
position_figure (Long x) = pos x.0
position_figure (Short x) = neg_ℤ (pos x.0)

-- 6 with bit 1, the account, or 5, the hour
abbrev pub net_checks : Book → ℕ → ℕ → List Check
net_checks b a h =
    (not (within 1 a (account_count b.setup)) ⇒ OutOfRange 1) ∷ (not (within 1 h (periods b.setup)) ⇒ OutOfRange 5) ∷ []

abbrev pub net_reading_of : Option Refusal → Position → Reading Position
net_reading_of (Some r) p = Err r
net_reading_of None p = Ok p

unfoldable pub net_reading : Book → ℕ → ℕ → Reading Position
net_reading b a h = net_reading_of (first_to_apply (net_checks b a h)) (position (net_of b.part.rows a h))

-- in the paper's numbers: its verdict, and the signed figure in kWh
abbrev pub net_read_out : Reading Position → ReadOut ℤ
net_read_out (Ok p) = read_out (position_figure p)
net_read_out (Err r) = not_read r

-- 6 with bit 9, the operator
abbrev pub exposure_checks : Book → ℕ → List Check
exposure_checks b o = (not (within 1 o (operator_count b.setup)) ⇒ OutOfRange 9) ∷ []

abbrev pub exposure_reading_of : Option Refusal → ℕ → Reading MilliCents
exposure_reading_of (Some r) e = Err r
exposure_reading_of None e = Ok (milli_cents e)

unfoldable pub exposure_reading : Book → ℕ → Reading MilliCents
exposure_reading b o = exposure_reading_of (first_to_apply (exposure_checks b o)) (exposure b.setup b.part.rows o)

-- 6 with bit 5, the hour, or 9, the operator
abbrev pub hourly_exposure_checks : Book → ℕ → ℕ → List Check
hourly_exposure_checks b o h =
    (not (within 1 h (periods b.setup)) ⇒ OutOfRange 5) ∷ (not (within 1 o (operator_count b.setup)) ⇒ OutOfRange 9) ∷ []

unfoldable pub hourly_exposure_reading : Book → ℕ → ℕ → Reading MilliCents
hourly_exposure_reading b o h =
    exposure_reading_of (first_to_apply (hourly_exposure_checks b o h)) (hourly_exposure b.setup b.part.rows o h)

-- in the paper's numbers, of the day and of an hour: its verdict, and the money in thousandths of a cent
abbrev pub exposure_read_out : Reading MilliCents → ReadOut MilliCents
exposure_read_out (Ok m) = read_out m
exposure_read_out (Err r) = not_read r

-- the money that was read, nothing where a reading was refused
abbrev pub money_read : Reading MilliCents → ℕ
money_read (Ok m) = m.0
money_read (Err r) = 0
