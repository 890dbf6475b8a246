-- A refusal leaves the fields alone, and a request is lent in its 34 bytes.
use mathlib.Core.Path.{refl, sym, ap, ◌∙◌}
use Rattle.rules.specs.declared.Request.{Request}
use Rattle.rules.specs.Requests.{request_read_out}
use Rattle.rules.specs.Verdicts.{numbers, Reading}
use Rattle.abi.specs.Lending.{lent_numbers}
use Rattle.abi.specs.Fields.{request_bytes}
use Rattle.rules.proofs.Checks.PassedOn.{passed_on}
use Rattle.abi.proofs.lending.lend_request.Goals as goal

pub returns-in_err-request : goal.returns-in_err-request
returns-in_err-request c =
    record {
      answer = ap numbers (passed_on _ c.from_residual.ensures.1)
          ∙ ap (λ (x : Reading Request). lent_numbers request_bytes (request_read_out x) c.args.fields.now) (sym (c.in_err-request.was {u = tt}));
      filled = rw (c.in_err-request.was {u = tt}) refl;
    }

pub returns : goal.returns
returns c =
    record { answer = rw (c.in_ok-request.was {u = tt}, ← c.request_bytes.ensures) (ap numbers c.lend.ensures.answer); filled = rw (c.in_ok-request.was {u = tt}, ← c.request_bytes.ensures) (c.lend.ensures.filled) }
