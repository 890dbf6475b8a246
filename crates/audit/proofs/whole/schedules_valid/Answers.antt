-- Too many schedules are none that stand; else the two tests decide.
use mathlib.Core.Path.{sym, ap, ◌∙◌}
use native.Mathlib.Omega.{arith}
use Rattle.rules.specs.declared.Counts.{Counts}
use Rattle.rules.specs.Opening.{setup_of}
use Rattle.rules.proofs.Setups.SetupEntries.{counts_of_setup}
use Rattle.audit.proofs.BookValidity.{too_many_schedules, schedules_by_tests}
use Rattle.audit.proofs.whole.schedules_valid.Goals as goal

pub returns-then-n-gt-MOST_SCHEDULES : goal.returns-then-n-gt-MOST_SCHEDULES
returns-then-n-gt-MOST_SCHEDULES c = too_many_schedules _ (omega (arith, c.get-n.ensures))

pub returns : goal.returns
returns c =
    let same = counts_of_setup c.args.book.now ∙ sym c.counts-c.ensures in
    schedules_by_tests c.args.book.now _ c.get-n.ensures (omega arith)
    (c.schedules_ok.ensures (setup_of c.args.book.now) (ap (λ (n : Counts). n.points) same) (ap (λ (n : Counts). n.hours) same)) c.all_zero.ensures
