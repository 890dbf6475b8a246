-- The test of the guarantees by their numbers is that of the guarantees.
use mathlib.Core.Path.{sym, ◌∙◌}
use lib.Dec.{leb}
use Rattle.std.proofs.Common.{of_calls}
use Rattle.wire.specs.Numbers.{number, number_at}
use Rattle.units.specs.Units.{cents}
use Rattle.rules.specs.Limits.{most_guarantee}
use Rattle.rules.specs.Opening.{guarantee_width}
use Rattle.image.specs.Cells.{guarantees_from}
use Rattle.audit.proofs.CheckLaws.{tests_by_number}
use Rattle.audit.proofs.checks.guarantees_ok.Goals as goal

pub returns : goal.returns
unfolding guarantees_from number_at
returns c =
    c.all_pass.ensures _ (λ i l t post. search of_calls)
    ∙ sym (tests_by_number (λ x. cents (number x)) guarantee_width (λ g. leb g.0 most_guarantee) c.args.s.now c.args.at c.args.n)
