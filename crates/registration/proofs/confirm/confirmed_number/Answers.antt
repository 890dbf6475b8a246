-- The row that confirm names is the pending one with the caller as its counterparty.
use Rattle.std.proofs.Common.{ap, ◌∙◌}
use Rattle.image.specs.Valid.{book_in}
use Rattle.registration.specs.Confirming.{some_number}
use Rattle.registration.proofs.ConfirmLaws.{confirmed_found}
use Rattle.registration.proofs.confirm.confirmed_number.Goals as goal

pub returns-clause-meaning : goal.returns-clause-meaning
returns-clause-meaning c = c.pending_number.ensures.meaning ∙ ap some_number (confirmed_found (book_in c.args.book.now) c.args.request)
