-- The test of the schedules by their numbers is that of the schedules.
use mathlib.Core.Path.{sym, ◌∙◌}
use Rattle.std.proofs.Common.{of_calls}
use Rattle.image.specs.Image.{schedule_in}
use Rattle.image.specs.Valid.{schedule_ok}
use Rattle.image.specs.Cells.{schedules_from}
use Rattle.image.specs.Layout.{schedule_width}
use Rattle.audit.proofs.CheckLaws.{tests_by_number}
use Rattle.audit.proofs.checks.schedules_ok.Goals as goal

pub returns : goal.returns
unfolding schedules_from
returns c u n h =
    c.all_pass.ensures _ (λ i l t post. search of_calls) ∙ sym (tests_by_number schedule_in schedule_width (schedule_ok u) c.args.s.now c.args.at c.args.n)
