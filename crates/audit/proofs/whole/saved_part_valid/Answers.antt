-- Without a batch there are zeros; with one the part decides, and the table is cleared.
use mathlib.Core.Path.{sym, ◌∙◌}
use Rattle.audit.proofs.BookValidity.{part_without, part_with_lem}
use Rattle.audit.proofs.whole.saved_part_valid.Goals as goal

pub returns-then-book-eq0 : goal.returns-then-book-eq0
returns-then-book-eq0 c =
    record { meaning = c.all_zero.ensures ∙ sym (part_without _ _ c.if-book-eq0.true); table = c.requires.1 }

pub returns : goal.returns
returns c =
    record { meaning = c.part_valid-valid.ensures.meaning ∙ sym (part_with_lem _ _ c.if-book-eq0.false); table = c.clear.ensures }
