-- A section that is not valid makes the bytes no sound book; where the set-up and both parts are valid, the other tests decide.
use mathlib.Core.Path.{sym, ◌∙◌}
use native.Mathlib.Omega.{arith}
use Rattle.wire.proofs.NumberLaws.{bytes_known}
use Rattle.audit.proofs.PartValidity.{few_rows}
use Rattle.audit.proofs.ValidityLaws.{not_passed, setup_known}
use Rattle.audit.proofs.BookValidity.{saved_counted, not_sized, one_falls, rest_decides}
use borrow.Author.Rules.{rules}
use Rattle.image.specs.Layout.{present_offset}
use Rattle.audit.proofs.whole.is_sound.Goals as goal

pub returns-then-book-ne-BOOK_SIZE : goal.returns-then-book-ne-BOOK_SIZE
returns-then-book-ne-BOOK_SIZE c =
    record { meaning = not_sized _ (bytes_known _ c.type_inv.book) c.if-book-ne-BOOK_SIZE.true; sums = not_passed }

pub returns-then-not-setup_valid : goal.returns-then-not-setup_valid
returns-then-not-setup_valid c =
    let bytes = bytes_known _ c.type_inv.book in
    record { meaning = one_falls _ bytes (λ d. d.setup_valid) (sym c.setup_valid.ensures ∙ c.if-not-setup_valid.true); sums = not_passed }

pub saved_part_valid-requires : goal.saved_part_valid-requires
saved_part_valid-requires c =
    let known = setup_known _ c.if-book-ne-BOOK_SIZE.false (sym c.setup_valid.ensures ∙ c.if-not-setup_valid.false) in
    (known, c.requires)

pub returns-then-not-saved_part_valid : goal.returns-then-not-saved_part_valid
returns-then-not-saved_part_valid c =
    let bytes = bytes_known _ c.type_inv.book in
    record { meaning = one_falls _ bytes (λ d. d.saved_valid) (sym c.saved_part_valid.ensures.meaning ∙ c.if-not-saved_part_valid.true); sums = not_passed }

pub part_valid-requires : goal.part_valid-requires
part_valid-requires c =
    let known = setup_known _ c.if-book-ne-BOOK_SIZE.false (sym c.setup_valid.ensures ∙ c.if-not-setup_valid.false) in
    record { setup_known = (known, omega arith); no_sums = (c.saved_part_valid.ensures.table, omega arith) }

pub returns-then-not-part_valid : goal.returns-then-not-part_valid
returns-then-not-part_valid c =
    let bytes = bytes_known _ c.type_inv.book in
    record { meaning = one_falls _ bytes (λ d. d.part_valid) (sym c.part_valid.ensures.meaning ∙ c.if-not-part_valid.true); sums = not_passed }

pub saved_followed-requires : goal.saved_followed-requires
saved_followed-requires c = (
  c.if-book-ne-BOOK_SIZE.false,
  saved_counted _ (sym c.saved_part_valid.ensures.meaning ∙ c.if-not-saved_part_valid.false),
  few_rows _ _ present_offset (sym c.part_valid.ensures.meaning ∙ c.if-not-part_valid.false),
)

pub returns-then-not-saved_followed : goal.returns-then-not-saved_followed
returns-then-not-saved_followed c =
    let bytes = bytes_known _ c.type_inv.book in
    record { meaning = one_falls _ bytes (λ d. d.followed) (sym c.saved_followed.ensures ∙ c.if-not-saved_followed.true); sums = not_passed }

pub schedules_valid-requires : goal.schedules_valid-requires
schedules_valid-requires c =
    setup_known _ c.if-book-ne-BOOK_SIZE.false (sym c.setup_valid.ensures ∙ c.if-not-setup_valid.false)

pub phase_valid-requires : goal.phase_valid-requires
phase_valid-requires c =
    (search rules, few_rows _ _ present_offset (sym c.part_valid.ensures.meaning ∙ c.if-not-part_valid.false))

pub returns : goal.returns
returns c =
    let bytes = bytes_known _ c.type_inv.book in
    let decided =
    rest_decides _ bytes c.if-book-ne-BOOK_SIZE.false
    (sym c.setup_valid.ensures ∙ c.if-not-setup_valid.false)
    (sym c.saved_part_valid.ensures.meaning ∙ c.if-not-saved_part_valid.false)
    (sym c.part_valid.ensures.meaning ∙ c.if-not-part_valid.false)
    (sym c.saved_followed.ensures ∙ c.if-not-saved_followed.false)
    c.schedules_valid.ensures c.phase_valid.ensures c.asks_valid.ensures c.all_zero.ensures in
    record { meaning = decided; sums = λ e. c.part_valid.ensures.sums (c.if-not-part_valid.false) }
