-- Where all places are zero no ask stands; a twin of an ask among the rows decides; else each ask is tested.
use mathlib.Core.Path.{sym, ◌∙◌}
use native.Mathlib.Omega.{arith}
use Rattle.book.proofs.StateLaws.{book_length}
use Rattle.asks.proofs.StandingLaws.{no_asks_stand}
use Rattle.asks.proofs.TwinLaws.{twin_falls}
use Rattle.asks.proofs.standing.asks_stand.Goals as goal

pub all_zero-requires : goal.all_zero-requires
all_zero-requires c = omega (arith, book_length _ c.requires.0)

pub returns-then-all_zero : goal.returns-then-all_zero
returns-then-all_zero c =
    sym (no_asks_stand _ c.requires.0 (sym c.all_zero.ensures ∙ c.if-all_zero.true))

pub returns-then-any_ask_twin : goal.returns-then-any_ask_twin
returns-then-any_ask_twin c =
    sym (twin_falls _ c.requires.0 (sym c.any_ask_twin.ensures ∙ c.if-any_ask_twin.true))

pub each_stands-requires : goal.each_stands-requires
each_stands-requires c =
    record { known_book = (c.requires.0, sym c.any_ask_twin.ensures ∙ c.if-any_ask_twin.false); sums_of = c.requires.1 }
