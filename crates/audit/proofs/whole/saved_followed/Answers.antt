-- Without a batch there is nothing to follow; with one the rows decide.
use mathlib.Core.Path.{sym, ◌∙◌}
use native.Mathlib.Omega.{arith}
use Rattle.audit.proofs.BookValidity.{followed_without, followed_with}
use Rattle.audit.proofs.whole.saved_followed.Goals as goal

pub returns-then-book-eq0 : goal.returns-then-book-eq0
returns-then-book-eq0 c = sym (followed_without _ _ c.if-book-eq0.true)

pub rows_follow-requires : goal.rows_follow-requires
rows_follow-requires c =
    (omega (arith, c.requires.0, c.requires.1 c.if-book-eq0.false, c.get-saved.ensures), omega (arith, c.requires.0, c.requires.2, c.get-rows.ensures))

pub returns : goal.returns
returns c =
    c.rows_follow.ensures ∙ rw (c.get-saved.ensures, c.get-rows.ensures) (sym (followed_with _ _ c.if-book-eq0.false))
