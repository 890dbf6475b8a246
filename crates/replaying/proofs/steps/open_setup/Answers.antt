-- The line of the outcome; the verdict says whether there is a fresh book.
use native.Mathlib.Omega.{arith}
use borrow.Author.Rules.{rules}
use mathlib.Core.Path.{◌∙◌}
use Rattle.replaying.proofs.StepLaws.{does_open, does_refuse}
use Rattle.replaying.proofs.steps.open_setup.Goals as goal

pub returns-in-Ok : goal.returns-in-Ok
returns-in-Ok c =
    let opening = c.open-verdict.ensures in
    let does = does_open _ _ c.requires.0 _ opening.answer opening.filled _ c.from.ensures c.put_answered.ensures.put.written (omega arith) c.in-Ok.is in
    record { answer = does.0; book = does.1.0; out = search rules ∙ does.1.1.0; bound = does.1.1.1.0; opens = does.1.1.1.1 }

pub returns-in-Err : goal.returns-in-Err
returns-in-Err c =
    let opening = c.open-verdict.ensures in
    let does = does_refuse _ _ c.requires.0 _ opening.answer opening.filled _ c.from.ensures c.put_answered.ensures.put.written (omega arith) c.in-Err.is c.ended.ensures in
    record { answer = does.0; book = does.1.0; out = search rules ∙ does.1.1.0; bound = does.1.1.1.0; opens = does.1.1.1.1 }
