-- All schedules of the book are placed, and then put in order of priority.
use mathlib.Core.Path.{◌≡◌, ◌∙◌, sym, ap}
use native.Mathlib.Omega.{arith}
use lib.ListN.{length, length-append}
use lib.Seq.{length-take-le, take_at}
use Rattle.image.specs.Valid.{book_in}
use Rattle.book.proofs.StateLaws.{schedule_count_high}
use Rattle.settlement.proofs.PlacingLaws.{none_placed, length-placed}
use Rattle.settlement.proofs.judging.prioritised_in.Goals as goal

pub slice_bounds-all-end : goal.slice_bounds-all-end
slice_bounds-all-end c = omega (arith, c.requires.1, schedule_count_high _ c.requires.0, none_placed _ c.no_schedules-all.ensures)

pub slice_bounds-place_each-end : goal.slice_bounds-place_each-end
slice_bounds-place_each-end c =
    sym (length-take-le _ _ (omega (arith, c.requires.1, schedule_count_high _ c.requires.0, none_placed _ c.no_schedules-all.ensures)))

pub place_each-requires : goal.place_each-requires
place_each-requires c =
    (c.requires.0, length-take-le _ _ (omega (arith, c.requires.1, schedule_count_high _ c.requires.0, none_placed _ c.no_schedules-all.ensures)) ∙ c.requires.1)

pub slice_bounds-all-end-2 : goal.slice_bounds-all-end-2
slice_bounds-all-end-2 c =
    simp length-append (omega (arith, ap length c.place_each.ensures, length-placed 1 (book_in c.args.book.now).schedules, c.requires.1))

pub slice_bounds-in_order-end : goal.slice_bounds-in_order-end
slice_bounds-in_order-end c =
    let size : length c.place_each.new.all ≡ c.args.n = ap length c.place_each.ensures ∙ length-placed 1 _ ∙ sym c.requires.1 in
    sym (ap length (take_at c.place_each.new.all _ c.args.n size) ∙ size)
