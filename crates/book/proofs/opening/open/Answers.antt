-- The size decides first, then the set-up; where neither is at fault the buffer holds the fresh book.
use Rattle.std.specs.Prelude.{None, Some}
use Rattle.rules.proofs.Checks.PassedOn.{passed_on}
use mathlib.Core.Path.{sym, ◌∙◌}
use Rattle.rules.proofs.Checks.Clearing.{checked-same}
use Rattle.book.proofs.OpeningLaws.{other_size, setup_decides, refused_unchanged, accepted_fresh}
use Rattle.book.proofs.opening.open.Goals as goal

pub returns-then-book-ne-BOOK_SIZE : goal.returns-then-book-ne-BOOK_SIZE
returns-then-book-ne-BOOK_SIZE c =
    let both = refused_unchanged _ _ _ (other_size _ _ c.if-book-ne-BOOK_SIZE.true) in record { answer = both.0; filled = both.1 }

pub returns-in_err-fault : goal.returns-in_err-fault
returns-in_err-fault c =
    let both = refused_unchanged _ _ _ (setup_decides _ _ c.if-book-ne-BOOK_SIZE.false ∙ checked-same _ (Some _) (sym c.fault.ensures ∙ c.in_err-fault.was)) in record { answer = passed_on _ c.from_residual.ensures.1 ∙ both.0; filled = both.1 }

pub fill-requires : goal.fill-requires
fill-requires c =
    (checked-same _ None (sym c.fault.ensures ∙ c.in_ok-fault.was), c.if-book-ne-BOOK_SIZE.false)

pub returns : goal.returns
returns c =
    let both = accepted_fresh _ _ (setup_decides _ _ c.if-book-ne-BOOK_SIZE.false ∙ checked-same _ None (sym c.fault.ensures ∙ c.in_ok-fault.was))
    c.fill.ensures in record { answer = both.0; filled = both.1 }
