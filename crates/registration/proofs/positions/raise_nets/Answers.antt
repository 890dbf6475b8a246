-- To raise the nets that are left, after those raised so far, is to raise all.
use Rattle.std.proofs.Common.{◌≡◌, ◌+◌, ◌-◌, ◌*◌, sym, ◌∙◌, arith}
use Rattle.image.proofs.Writing.Loops.{sweep_on, sweep_done}
use Rattle.image.specs.Layout.{net_width}
use Rattle.registration.proofs.positions.raise_nets.Goals as goal

pub loop-i-preserved : goal.loop-i-preserved
loop-i-preserved c =
    let at = c.args.from + net_width * c.loop-i.i in
    let next : c.args.from + net_width * (c.loop-i.i + 1) ≡ at + net_width = omega arith in
    rw next (c.loop-i.invariant ∙ sweep_on _ net_width c.loop-i.s at _ (c.args.n - c.loop-i.i) (c.args.n - (c.loop-i.i + 1)) (omega arith) c.raise_net.ensures)

pub returns : goal.returns
returns c = sym (c.loop-i.invariant ∙ sweep_done _ _ _ _ _ (omega arith))
