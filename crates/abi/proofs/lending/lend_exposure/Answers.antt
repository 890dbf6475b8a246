-- A refusal leaves the figure alone, and an exposure is lent in its 8 bytes.
use mathlib.Core.Path.{refl, sym, ap, ◌∙◌}
use Rattle.units.specs.declared.MilliCents.{MilliCents}
use Rattle.rules.specs.Readings.{exposure_read_out}
use Rattle.rules.specs.Verdicts.{numbers, Reading}
use Rattle.abi.specs.Lending.{lent_numbers, exposure_bytes}
use Rattle.rules.proofs.Checks.PassedOn.{passed_on}
use Rattle.wire.proofs.NumberLaws.{to_bytes}
use Rattle.abi.proofs.lending.lend_exposure.Goals as goal

pub returns-in_err-exposure : goal.returns-in_err-exposure
returns-in_err-exposure c =
    record {
      answer = ap numbers (passed_on _ c.from_residual.ensures.1)
          ∙ ap (λ (x : Reading MilliCents). lent_numbers exposure_bytes (exposure_read_out x) c.args.figure.now) (sym (c.in_err-exposure.was {u = tt}));
      filled = rw (c.in_err-exposure.was {u = tt}) refl;
    }

pub returns : goal.returns
returns c =
    record { answer = rw (c.in_ok-exposure.was {u = tt}, ← (c.to_le_bytes.ensures ∙ to_bytes 8 _)) (ap numbers c.lend.ensures.answer); filled = rw (c.in_ok-exposure.was {u = tt}, ← (c.to_le_bytes.ensures ∙ to_bytes 8 _)) (c.lend.ensures.filled) }
