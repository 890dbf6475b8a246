-- The row's status is written, and then the nets are moved.
use Rattle.std.proofs.Common.{◌∙◌}
use Rattle.registration.proofs.confirm.put_trade.Goals as goal

pub returns : goal.returns
returns c =
    c.move_nets.ensures ∙ rw (c.put.ensures, c.row_offset.ensures)
