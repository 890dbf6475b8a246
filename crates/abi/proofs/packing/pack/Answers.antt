-- Each number fits its bytes, so none runs into the next.
use Rattle.abi.proofs.PackingLaws.{packs}
use borrow.Author.Rules.{rules}
use Rattle.abi.proofs.packing.pack.Goals as goal

pub returns : goal.returns
returns c =
    record { answer = packs _ _ _ _ (search rules) (search rules) (search rules) c.from-n.ensures }
