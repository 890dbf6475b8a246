-- What is written is the remainder of the sum by 2^32.
use Rattle.std.proofs.Common.{sym, ◌∙◌, arith}
use Rattle.image.proofs.Writing.Loops.{raised-step}
use Rattle.registration.proofs.positions.raise_net.Goals as goal

pub returns : goal.returns
returns c =
    c.put.ensures
    ∙ sym (raised-step 4 _ _ _ _ (omega (arith, c.wrapping_add_u32.ensures, c.get.ensures)))
