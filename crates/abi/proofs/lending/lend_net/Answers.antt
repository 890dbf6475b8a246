-- A refusal leaves the figure alone, and a position is lent in the 8 signed bytes of its word.
use mathlib.Core.Path.{refl, sym, ap, ◌∙◌}
use Rattle.rules.specs.declared.Position.{Position}
use Rattle.rules.specs.Readings.{net_read_out}
use Rattle.rules.specs.Verdicts.{numbers, Reading}
use Rattle.abi.specs.Lending.{lent_numbers, net_bytes}
use Rattle.rules.proofs.Checks.PassedOn.{passed_on}
use Rattle.wire.proofs.NumberLaws.{to_bytes}
use Rattle.abi.proofs.lending.lend_net.Goals as goal

pub returns-in_err-position : goal.returns-in_err-position
returns-in_err-position c =
    record {
      answer = ap numbers (passed_on _ c.from_residual.ensures.1)
          ∙ ap (λ (x : Reading Position). lent_numbers net_bytes (net_read_out x) c.args.figure.now) (sym (c.in_err-position.was {u = tt}));
      filled = rw (c.in_err-position.was {u = tt}) refl;
    }

pub returns : goal.returns
returns c =
    record { answer = rw (c.in_ok-position.was {u = tt}, ← ((c.to_le_bytes.ensures ∙ to_bytes 8 _) ∙ c.position_word.ensures)) (ap numbers c.lend.ensures.answer); filled = rw (c.in_ok-position.was {u = tt}, ← ((c.to_le_bytes.ensures ∙ to_bytes 8 _) ∙ c.position_word.ensures)) (c.lend.ensures.filled) }
