-- The tests of the two kinds are the same, and are made in the order of their numbers.
use mathlib.Core.Path.{sym, ap, ◌∙◌}
use Rattle.rules.specs.Verdicts.{checked}
use Rattle.book.proofs.Answers.{in_wrong_phase}
use Rattle.batches.proofs.Decisions.{with_batch, outside_batch, phase_outside}
use Rattle.rules.specs.declared.phases.Phase.TheVariants.{Registration}
use Rattle.book.proofs.PhaseLaws.{other_phase, same_phase}
use Rattle.batches.proofs.saving.outside_batch.Goals as goal

pub returns-then-ne : goal.returns-then-ne
returns-then-ne c = λ k q m. ap checked (sym (in_wrong_phase _ q k (λ e. other_phase _ Registration c.phase.ensures c.ne.ensures c.if-ne.true (e ∙ phase_outside k m))))

pub returns-then-batch_open : goal.returns-then-batch_open
returns-then-batch_open c = λ k q m. ap checked (sym (with_batch _ q (same_phase _ Registration c.phase.ensures c.ne.ensures c.if-ne.false) k m (sym c.batch_open.ensures ∙ c.if-batch_open.true)))

pub returns : goal.returns
returns c = λ k q m. ap checked (sym (outside_batch _ q (same_phase _ Registration c.phase.ensures c.ne.ensures c.if-ne.false) k m (sym c.batch_open.ensures ∙ c.if-batch_open.false)))
