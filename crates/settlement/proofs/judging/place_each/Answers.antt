-- After `k` schedules the first `k` have their places.
use Prim.Native.Nat.{◌<◌}
use mathlib.Core.Path.{refl, sym, ◌∙◌}
use native.Mathlib.Omega.{arith}
use lib.ListN.{length, length-set}
use lib.Seq.{take_all}
use Rattle.rules.specs.Settlement.{placed}
use Rattle.image.specs.Valid.{book_in}
use Rattle.settlement.proofs.PlacingLaws.{schedule_stands, length-placed, placed-next}
use Rattle.settlement.proofs.judging.place_each.Goals as goal

pub loop-k-preserved : goal.loop-k-preserved
loop-k-preserved c =
    let few : c.loop-k.k < length (book_in c.args.book.now).schedules = omega (arith, c.requires.1) in
    (simp length-set c.loop-k.invariant.0, placed-next _ c.loop-k.all c.loop-k.k _ _ (omega arith) few refl (c.schedule_at-schedule.ensures ∙ schedule_stands _ c.requires.0 c.loop-k.k _ _ few refl) c.loop-k.invariant.1)

pub returns : goal.returns
returns c =
    let xs = (book_in c.args.book.now).schedules in
    sym (take_all c.loop-k.k c.loop-k.all (omega (arith, c.requires.1))) ∙ c.loop-k.invariant.1 ∙ take_all c.loop-k.k (placed 1 xs) (omega (arith, length-placed 1 xs, c.requires.1))
