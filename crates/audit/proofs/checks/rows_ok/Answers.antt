-- The test of the rows by their numbers is that of the rows.
use mathlib.Core.Path.{sym, ◌∙◌}
use Rattle.std.proofs.Common.{of_calls}
use Rattle.image.specs.Cells.{rows_from}
use Rattle.image.specs.Image.{row_in}
use Rattle.image.specs.Valid.{row_ok}
use Rattle.image.specs.Layout.{row_width}
use Rattle.audit.proofs.CheckLaws.{tests_by_number}
use Rattle.audit.proofs.checks.rows_ok.Goals as goal

pub returns : goal.returns
unfolding rows_from
returns c u n h =
    c.all_pass.ensures _ (λ i l t post. search of_calls) ∙ sym (tests_by_number row_in row_width (row_ok u) c.args.s.now c.args.at c.args.n)
