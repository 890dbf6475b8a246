-- To raise the nets that are left, after those raised so far, is to raise all.
use Rattle.std.proofs.Common.{◌≡◌, ◌+◌, ◌-◌, ◌*◌}
use Rattle.wire.specs.Parts.{sweep}
use Rattle.image.specs.Changes.{raised}
use Rattle.image.specs.Layout.{net_width}
use Rattle.registration.proofs.positions.raise_nets.Given as goal

abbrev pub invariant-loop-i : goal.invariant-loop-i
invariant-loop-i l =
    sweep (raised net_width l.more) net_width l.initial.s l.from l.n ≡ sweep (raised net_width l.more) net_width l.s (l.from + net_width * l.i) (l.n - l.i)
