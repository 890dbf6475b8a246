-- The tests of the definition, in its order; the status of a row is its own.
use mathlib.Core.Path.{refl, ◌∙◌}
use mathlib.Core.Bool.{and_assoc, and-true}
use borrow.Author.Tests.{eq-eqb}
use Rattle.rules.specs.Registration.{same_terms}
use Rattle.image.proofs.rows.same_terms.Goals as goal

pub returns : goal.returns
unfolding same_terms
returns c = c.eq.ensures ∙ simp (eq-eqb c.args.y.status c.args.y.status refl, and-true, and_assoc)
