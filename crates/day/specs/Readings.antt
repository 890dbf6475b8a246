-- The readings that the promise compares with those of a book: what the ledger would read out, in the paper's numbers.
use Rattle.std.specs.Prelude.{ℕ, ℤ, if◌then◌else◌, None}
use Rattle.units.specs.declared.MilliCents.{MilliCents}
use Rattle.units.specs.Units.{milli_cents}
use Rattle.rules.specs.Basics.{within}
use Rattle.rules.specs.Verdicts.{ReadOut, read_out}
use Rattle.rules.specs.Books.{account_count, operator_count, periods}
use Rattle.rules.specs.Registration.{figure}
use Rattle.rules.specs.Ledger.{Ledger, ledger_net, ledger_exposure, ledger_hourly_exposure}

-- a net position by account and hour: 6 with bit 1 where the set-up has no such account, with bit 5 where it has no such hour
unfoldable pub ledger_net_read_out : Ledger → ℕ → ℕ → ReadOut ℤ
ledger_net_read_out l a h =
    if within 1 a (account_count l.setup)
    then (if within 1 h (periods l.setup) then read_out (figure (ledger_net l a h)) else ((6, 5, 0), None))
    else ((6, 1, 0), None)

-- an exposure by operator: 6 with bit 9 where the set-up has no such operator
unfoldable pub ledger_exposure_read_out : Ledger → ℕ → ReadOut MilliCents
ledger_exposure_read_out l o =
    if within 1 o (operator_count l.setup) then read_out (milli_cents (ledger_exposure l o)) else ((6, 9, 0), None)

-- an hourly exposure, by operator and hour: 6 with bit 5 where the set-up has no such hour, with bit 9 where it has no such operator
unfoldable pub ledger_hourly_exposure_read_out : Ledger → ℕ → ℕ → ReadOut MilliCents
ledger_hourly_exposure_read_out l o h =
    if within 1 h (periods l.setup)
    then (if within 1 o (operator_count l.setup) then read_out (milli_cents (ledger_hourly_exposure l o h)) else ((6, 9, 0), None))
    else ((6, 5, 0), None)
