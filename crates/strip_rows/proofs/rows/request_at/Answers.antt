-- The request of a register's row is a register.
use mathlib.Core.Path.{ap, ◌∙◌}
use Rattle.rules.specs.Requests.{request_of}
use Rattle.strip_rows.proofs.RowSteps.{register_kind}
use Rattle.strip_rows.proofs.rows.request_at.Goals as goal

pub returns-clause-kind : goal.returns-clause-kind
returns-clause-kind c = register_kind _ c.requires.register (c.row_request.ensures ∙ ap request_of c.row_at.ensures)
