-- A buffer that is too short is left alone, and any other has its first bytes replaced.
use mathlib.Core.Path.{◌∙◌}
use Rattle.abi.proofs.LendingLaws.{no_room, room}
use borrow.Author.Rules.{rules}
use Rattle.abi.proofs.lending.lend.Goals as goal

pub returns-then-buffer-said : goal.returns-then-buffer-said
returns-then-buffer-said c =
    let both = no_room _ _ c.if-buffer-said.true in record { answer = both.0; filled = both.1 }

pub returns : goal.returns
returns c =
    let fits = room c.args.said.now c.args.buffer.now (search rules) in
    record { answer = fits.0; filled = c.copy_in.ensures ∙ fits.1 }
