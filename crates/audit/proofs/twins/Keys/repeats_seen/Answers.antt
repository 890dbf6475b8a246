-- Where nothing was seen at its mark the key does not repeat, by what is required; otherwise it is searched for.
use mathlib.Core.Path.{sym}
use Rattle.audit.proofs.twins.Keys.repeats_seen.Goals as goal

pub returns-then-seen-eq0 : goal.returns-then-seen-eq0
returns-then-seen-eq0 c = sym (c.requires.2 c.if-seen-eq0.true)
