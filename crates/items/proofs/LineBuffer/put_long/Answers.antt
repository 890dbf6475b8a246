-- The line is one text, which is copied in.
use Rattle.rules.specs.Replay.{line_text}
use Rattle.items.proofs.LineBuffer.put_long.Goals as goal

pub returns-clause-put : goal.returns-clause-put
unfolding line_text
returns-clause-put c =
    c.put_bytes.ensures
