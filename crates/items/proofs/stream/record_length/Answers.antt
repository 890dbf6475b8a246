-- The third byte decides, where there is one.
use mathlib.Core.Path.{sym}
use borrow.Author.Rules.{rules}
use Rattle.items.proofs.StreamLaws.{record_short}
use Rattle.items.proofs.stream.record_length.Goals as goal

pub returns-then-item-lt-BARE_RECORD : goal.returns-then-item-lt-BARE_RECORD
returns-then-item-lt-BARE_RECORD c = sym (record_short _ (search rules))
