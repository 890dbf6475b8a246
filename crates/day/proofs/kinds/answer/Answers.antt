-- The ranges are checked against the counts that the book begins with; a request that is in range is ready for its kind.
use Rattle.std.specs.Prelude.{None, Some}
use mathlib.Core.Path.{◌∙◌}
use Rattle.rules.proofs.Checks.PassedOn.{passed_on}
use native.Mathlib.Omega.{arith}
use Rattle.rules.specs.Limits.{most_hours, book_size}
use Rattle.image.proofs.Round.{book_is_sound}
use Rattle.book.proofs.StateLaws.{book_length}
use Rattle.day.proofs.RequestLaws.{ranges_found, in_range_ready, refused_saying, plain_saying}
use Rattle.day.proofs.kinds.answer.Goals as goal

pub counts-n-requires : goal.counts-n-requires
counts-n-requires c = let n = book_length _ (book_is_sound most_hours book_size _ c.requires.known_book) in omega arith

pub returns-in_err-check_ranges : goal.returns-in_err-check_ranges
returns-in_err-check_ranges c =
    let sound = book_is_sound most_hours book_size _ c.requires.known_book in
    let both = refused_saying _ _ sound c.requires.plain_kind.0 _ (ranges_found _ sound _ _ _ (Some _) c.counts-n.ensures c.check_ranges.ensures c.in_err-check_ranges.was) in record { answer = λ x e. passed_on _ c.from_residual.ensures.1 ∙ both.0 x e; bytes = both.1.0; still = both.1.1 }

pub by_kind-requires : goal.by_kind-requires
by_kind-requires c =
    let in_range_lem =
    ranges_found _ (book_is_sound most_hours book_size _ c.requires.known_book) _ _ _ None c.counts-n.ensures c.check_ranges.ensures c.in_ok-check_ranges.was in
    record { known_book = c.requires.known_book; plain_kind = (c.requires.plain_kind.0, in_range_ready _ _ c.requires.plain_kind.0 c.requires.plain_kind.1 in_range_lem) }

pub returns : goal.returns
returns c =
    let in_range_lem =
    ranges_found _ (book_is_sound most_hours book_size _ c.requires.known_book) _ _ _ None c.counts-n.ensures c.check_ranges.ensures c.in_ok-check_ranges.was in
    let both = plain_saying _ _ (book_is_sound most_hours book_size _ c.requires.known_book) c.requires.plain_kind.0 in_range_lem _ _ (c.by_kind.ensures.answer, (c.by_kind.ensures.bytes, c.by_kind.ensures.still)) in record { answer = both.0; bytes = both.1.0; still = both.1.1 }
