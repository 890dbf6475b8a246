-- No row is pending where each is not; the test of the rows by their numbers is that of the rows.
use mathlib.Core.Path.{sym, ◌∙◌}
use mathlib.Core.Bool.{not}
use Rattle.std.proofs.Common.{of_calls}
use Rattle.rules.specs.Registration.{pending}
use Rattle.image.specs.Image.{row_in}
use Rattle.image.specs.Cells.{rows_from}
use Rattle.image.specs.Layout.{row_width}
use Rattle.image.proofs.Reading.RowsFrom.{not_any}
use Rattle.audit.proofs.CheckLaws.{tests_by_number}
use Rattle.audit.proofs.checks.none_pending.Goals as goal

pub returns : goal.returns
unfolding rows_from
returns c =
    c.all_pass.ensures _ (λ i l t post. search of_calls)
    ∙ sym (not_any pending _ ∙ tests_by_number row_in row_width (λ r. not (pending r)) c.args.s.now c.args.at c.args.n)
