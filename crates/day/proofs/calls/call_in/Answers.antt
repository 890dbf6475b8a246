-- What the functions of its kind leave is left, without asks where the call clears them.
use mathlib.Core.Path.{sym, ◌∙◌}
use Rattle.wire.proofs.NumberLaws.{bytes_known}
use Rattle.day.proofs.CallLaws.{cleared_given, uncleared_given}
use Rattle.day.proofs.calls.call_in.Goals as goal

pub returns-then-clears_asks : goal.returns-then-clears_asks
returns-then-clears_asks c =
    let bytes = bytes_known _ c.type_inv.bytes in
    let clears = sym c.clears_asks.ensures ∙ c.if-clears_asks.true in
    record { answer = cleared_given _ _ c.requires bytes _ _ _ _ c.change_in-verdict.ensures.answer _ clears c.clear_asks.ensures.bytes; still = c.clear_asks.ensures.still }

pub returns-else-clears_asks : goal.returns-else-clears_asks
returns-else-clears_asks c =
    let bytes = bytes_known _ c.type_inv.bytes in
    let both = uncleared_given _ _ c.requires bytes _ _ _ _ c.change_in-verdict.ensures.answer (sym c.clears_asks.ensures ∙ c.if-clears_asks.false) in record { answer = both.0; still = both.1 }
