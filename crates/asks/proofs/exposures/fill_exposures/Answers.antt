-- The entries before that of the operator are the exposures of the operators before it.
use Prim.Native.Nat.{◌+◌}
use mathlib.Core.Path.{◌≡◌, sym, ap, ◌∙◌}
use native.Mathlib.Omega.{arith}
use Rattle.rules.specs.declared.Counts.{Counts}
use Rattle.rules.specs.Books.{Setup}
use Rattle.rules.specs.Registration.{exposure}
use Rattle.image.specs.Valid.{book_in}
use Rattle.book.proofs.StateLaws.{book_length, book_is_sound}
use Rattle.book.proofs.BookRows.{counts_in_lem, setup_in_lem, setup_tabled, estimates_in_lem}
use Rattle.book.proofs.WorthParts.{listed_first, listed_next}
use Rattle.asks.proofs.SharedLaws.{exposures_listed}
use Rattle.asks.proofs.exposures.fill_exposures.Goals as goal
use Rattle.asks.proofs.exposures.fill_exposures.Goals.{After-exposure_of-owed}

pub counts-n-requires : goal.counts-n-requires
counts-n-requires c = omega (arith, book_length _ c.requires.exposures_fit.1)

pub loop-number-init : goal.loop-number-init
loop-number-init c =
    let operators = ap (λ (n : Counts). n.operators) (c.counts-n.ensures ∙ sym (counts_in_lem _ c.requires.exposures_fit.1)) in
    (operators, omega (arith, operators, (book_is_sound _ c.requires.exposures_fit.1).setup_sound.operators_high), omega arith, omega arith, listed_first _ _ _ c.requires.exposures_fit.0)

pub exposure_of-owed-requires : goal.exposure_of-owed-requires
exposure_of-owed-requires c =
    (setup_tabled _ c.requires.exposures_fit.1, estimates_in_lem _ c.requires.exposures_fit.1, record { whole = c.requires.sums_of.whole; top_high = omega arith })

-- the exposure of the operator whose turn it is
owed : (c : After-exposure_of-owed) → c.exposure_of-owed.result.0 ≡ exposure (book_in c.args.book.now).setup (book_in c.args.book.now).part.rows c.loop-number.number
owed c =
    let rows = (book_in c.args.book.now).part.rows in
    c.exposure_of-owed.ensures rows c.requires.sums_of ∙ ap (λ (u : Setup). exposure u rows c.loop-number.number) (sym (setup_in_lem _ c.requires.exposures_fit.1))

pub loop-number-preserved : goal.loop-number-preserved
loop-number-preserved c =
    (c.loop-number.invariant.0, c.loop-number.invariant.1, omega arith, omega arith, listed_next _ _ _ _ _ (omega (arith, c.loop-number.invariant.1)) (owed (goal.at.loop-number-preserved c).After-exposure_of-owed) c.loop-number.invariant.4)

pub returns-2 : goal.returns-2
returns-2 c =
    exposures_listed _ c.requires.exposures_fit.1 _ (c.loop-number.number + 1) (omega (arith, c.loop-number.invariant.0)) (listed_next _ _ _ _ _ (omega (arith, c.loop-number.invariant.1)) (owed (goal.at.returns-2 c).After-exposure_of-owed) c.loop-number.invariant.4)
