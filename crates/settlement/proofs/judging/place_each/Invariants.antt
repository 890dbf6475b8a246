-- After `k` schedules the first `k` have their places.
use mathlib.Core.Path.{◌≡◌}
use lib.ListN.{length, take}
use Rattle.rules.specs.Settlement.{placed}
use Rattle.image.specs.Valid.{book_in}
use Rattle.settlement.proofs.judging.place_each.Given as goal

abbrev pub invariant-loop-k : goal.invariant-loop-k
invariant-loop-k l =
    (length l.all ≡ length (book_in l.book).schedules) × (take l.k l.all ≡ take l.k (placed 1 (book_in l.book).schedules))
