-- The three tests are those of the definition, by the counts of the set-up.
use mathlib.Core.Path.{◌∙◌, sym, ap}
use mathlib.Core.List.{[], ◌∷◌}
use Rattle.rules.specs.declared.Counts.{Counts}
use Rattle.rules.specs.Opening.{setup_of}
use Rattle.rules.proofs.Basics.Tests.{chained_all}
use Rattle.rules.proofs.Setups.SetupEntries.{counts_of_setup}
use Rattle.audit.specs.Validity.{rows_valid}
use Rattle.audit.proofs.part.rows_valid.Goals as goal

pub returns : goal.returns
unfolding rows_valid
returns c =
    let same = counts_of_setup c.args.book.now ∙ sym c.counts-c.ensures in
    let rows = c.rows_ok.ensures (setup_of c.args.book.now) (ap (λ (n : Counts). n.accounts) same) (ap (λ (n : Counts). n.hours) same) in
    rw (rows, c.all_zero.ensures, c.no_twins.ensures) (chained_all _ (_ ∷ _ ∷ []))
