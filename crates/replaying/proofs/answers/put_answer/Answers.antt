-- The answer's own line, and behind it those of a settle.
use native.Mathlib.Omega.{arith}
use Rattle.replaying.proofs.AnswerLaws.{put_settling, put_plain}
use Rattle.replaying.proofs.answers.put_answer.Goals as goal

pub returns-then-settled-clause-put : goal.returns-then-settled-clause-put
returns-then-settled-clause-put c =
    put_settling _ _ _ _ _ _ _ _ c.if-settled.true c.from.ensures (omega arith) c.put_answered.ensures.put c.put_settled.ensures.put

pub returns-else-settled-clause-put : goal.returns-else-settled-clause-put
returns-else-settled-clause-put c =
    put_plain _ _ _ _ _ _ _ _ c.if-settled.false c.from.ensures c.put_answered.ensures.put
