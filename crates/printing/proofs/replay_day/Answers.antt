use Rattle.std.proofs.Common.{refl, sym, arith, ◌∙◌, true≢false}
use Rattle.std.proofs.option.Match.{None-if_not_some}
use Rattle.printing.proofs.RoundLaws.{led_none, led_on, replayed}
use Rattle.printing.proofs.replay_day.Goals as goal

-- src/lib.rt:92:5
pub loop-written-init : goal.loop-written-init
loop-written-init g c = (led_none _ _, c.gather-gathered.ensures.follows.underway, omega arith, refl, refl)

-- src/lib.rt:92:5
pub loop-written-preserved : goal.loop-written-preserved
loop-written-preserved g c =
    let round = c.gather-gathered-in-loop-written.ensures in
    (led_on _ c.loop-written.invariant.0 round.left round.follows, round.follows.underway, omega arith, omega arith, omega arith)

pub returns-else-is_some : goal.returns-else-is_some
returns-else-is_some g c =
    let first = c.gather_first-first.ensures in
    let round = c.gather-gathered.ensures in
    replayed _ _ _ _ first.left round.left (round.follows.whole ∙ first.whole) c.loop-written.invariant.0 (λ w. None-if_not_some _ (sym c.is_some.ensures ∙ c.if-is_some.false))

pub returns-after-loop-written : goal.returns-after-loop-written
returns-after-loop-written g c =
    let first = c.gather_first-first.ensures in
    let round = c.gather-gathered.ensures in
    replayed _ _ _ _ first.left round.left (round.follows.whole ∙ first.whole) c.loop-written.invariant.0 (λ w. absurd (true≢false (sym w ∙ c.loop-written-test.false)))
