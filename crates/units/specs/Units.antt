-- Figures in their unit (document 01, "What the book covers").
use Rattle.std.specs.Prelude.{ℕ}
use Rattle.units.specs.declared.Kwh.{Kwh}
use Rattle.units.specs.declared.CentsPerMwh.{CentsPerMwh}
use Rattle.units.specs.declared.MilliCents.{MilliCents}
use Rattle.units.specs.declared.Cents.{Cents}

-- energy in whole kWh
abbrev pub kwh : ℕ → Kwh
kwh n = record { 0 = n }

-- a price in euro cents per MWh
abbrev pub cents_per_mwh : ℕ → CentsPerMwh
cents_per_mwh n = record { 0 = n }

-- money in thousandths of a cent
abbrev pub milli_cents : ℕ → MilliCents
milli_cents n = record { 0 = n }

-- a guarantee in cents
abbrev pub cents : ℕ → Cents
cents n = record { 0 = n }
