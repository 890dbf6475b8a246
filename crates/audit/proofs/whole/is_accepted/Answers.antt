-- `fault` says what opening would refuse the bytes for; where that is nothing they are accepted.
use Rattle.std.specs.Prelude.{Option, None, Some}
use mathlib.Core.Path.{sym, ap, ◌∙◌}
use mathlib.Core.Bool.{not}
use Rattle.rules.specs.declared.Refusal.{Refusal}
use Rattle.rules.specs.Basics.{is_some}
use Rattle.rules.specs.Opening.{setup_refusal}
use Rattle.rules.proofs.Checks.Clearing.{checked-same}
use Rattle.audit.proofs.whole.is_accepted.Goals as goal

pub returns-in-Ok : goal.returns-in-Ok
returns-in-Ok c = ap (λ (o : Option Refusal). not (is_some o)) (checked-same None (setup_refusal c.args.setup.now) (sym c.in-Ok.is ∙ c.fault.ensures))

pub returns-in-Err : goal.returns-in-Err
returns-in-Err c = ap (λ (o : Option Refusal). not (is_some o)) (checked-same (Some _) (setup_refusal c.args.setup.now) (sym c.in-Err.is ∙ c.fault.ensures))
