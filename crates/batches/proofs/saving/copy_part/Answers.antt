-- The part is copied up to the end of its rows and from its net positions on; between them both parts are zero already.
use mathlib.Core.Logic.{⊎_elim, inl, inr}
use native.Mathlib.Omega.{arith}
use Rattle.batches.proofs.BatchLaws.{part_copied_lem}
use Rattle.batches.proofs.saving.copy_part.Goals as goal

pub copy_within-requires : goal.copy_within-requires
copy_within-requires c =
    (omega arith, omega arith, ⊎_elim (λ w. inl (omega arith)) (λ w. inr (omega arith)) c.requires.has_part.2)

pub copy_within-requires-2 : goal.copy_within-requires-2
copy_within-requires-2 c =
    (omega arith, omega arith, ⊎_elim (λ w. inl (omega arith)) (λ w. inr (omega arith)) c.requires.has_part.2)

pub returns : goal.returns
returns c =
    let (inside, there, apart) = c.requires.has_part in
    let (few, room, gap) = c.requires.rows_end in
    part_copied_lem _ _ _ _ few _ _ inside there apart room gap c.copy_within.ensures c.copy_within-2.ensures
