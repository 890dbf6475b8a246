-- The buffer is cleared, the set-up is copied to its front, and the guarantees in it are cleared.
use Rattle.wire.specs.Parts.{zeros}
use Rattle.book.proofs.opening.put_setup.Goals as goal

pub returns : goal.returns
unfolding zeros
returns c =
    rw (c.clear_guarantees.ensures, c.copy_in.ensures, c.fill.ensures.after (λ y same. same))
