-- The tests are the definition's, on the bytes of the row: the code first, and the rest where the code agrees.
use Rattle.registration.proofs.PendingLaws.{another_code, rest_decides}
use Rattle.registration.proofs.search.alike_at.Goals as goal

pub returns-then-get-code : goal.returns-then-get-code
returns-then-get-code c = another_code _ _ _ _ _ c.get.ensures c.if-get-code.true

pub returns : goal.returns
returns c =
    rest_decides _ _ _ _ _ c.get.ensures c.if-get-code.false c.get-status.ensures c.get-first.ensures c.get-second.ensures
