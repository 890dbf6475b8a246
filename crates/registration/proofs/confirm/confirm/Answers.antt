-- What was checked is what the state decides, and what is written is the book with the row confirmed.
use Rattle.std.proofs.Common.{sym, ◌∙◌, arith}
use Rattle.rules.specs.Requests.{confirm}
use Rattle.book.proofs.StateLaws.{book_length, row_count_high}
use Rattle.book.proofs.Answers.{refused_answered}
use Rattle.registration.proofs.ConfirmLaws.{refusal_decided, acceptance_decided, accepted_number, accepted_tabled, accepted_energy, trade_answered}
use Rattle.registration.proofs.confirm.confirm.Goals as goal

pub returns-in_err-number-clause-bytes : goal.returns-in_err-number-clause-bytes
returns-in_err-number-clause-bytes c =
    (refused_answered confirm _ _ c.requires.known_book _ (refusal_decided _ _ _ (sym c.in_err-number.was ∙ c.number_to_confirm.ensures))).1.0

pub numbered_row-row-requires : goal.numbered_row-row-requires
numbered_row-row-requires c =
    let free = acceptance_decided _ _ _ (sym c.in_ok-number.was ∙ c.number_to_confirm.ensures) in
    (c.requires.known_book, accepted_number _ _ _ c.requires.known_book free.0 free.1)

pub put_trade-requires : goal.put_trade-requires
put_trade-requires c =
    let free = acceptance_decided _ _ _ (sym c.in_ok-number.was ∙ c.number_to_confirm.ensures) in
    let within = accepted_number _ _ _ c.requires.known_book free.0 free.1 in (
      book_length _ c.requires.known_book,
      within.0,
      omega (arith, within.1, row_count_high _ c.requires.known_book),
      accepted_tabled _ _ _ c.requires.known_book free.0 free.1 _ c.numbered_row-row.ensures,
      accepted_energy _ _ _ c.requires.known_book free.0 free.1 _ c.numbered_row-row.ensures,
    )

pub returns-clause-bytes : goal.returns-clause-bytes
returns-clause-bytes c =
    let free = acceptance_decided _ _ _ (sym c.in_ok-number.was ∙ c.number_to_confirm.ensures) in
    (trade_answered _ _ _ c.requires.known_book free.0 free.1 _ c.numbered_row-row.ensures _ c.put_trade.ensures).1.0

pub returns-clause-still : goal.returns-clause-still
returns-clause-still c =
    let free = acceptance_decided _ _ _ (sym c.in_ok-number.was ∙ c.number_to_confirm.ensures) in
    (trade_answered _ _ _ c.requires.known_book free.0 free.1 _ c.numbered_row-row.ensures _ c.put_trade.ensures).1.1
