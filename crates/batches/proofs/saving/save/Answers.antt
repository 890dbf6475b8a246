-- The room past the rows is zero in both parts, whether a batch is open or not, so that the copy is the whole present part.
use Prim.Native.Nat.{ℕ}
use mathlib.Core.Path.{ap, ◌∙◌}
use mathlib.Core.List.{List}
use mathlib.Core.Logic.{inl}
use native.Mathlib.Omega.{arith}
use Rattle.wire.specs.Numbers.{le}
use Rattle.wire.specs.Regions.{splice}
use Rattle.image.specs.Layout.{flag_offset}
use Rattle.book.proofs.StateLaws.{book_length}
use Rattle.batches.proofs.BatchLaws.{present_rows_end, saved_past_rows}
use Rattle.batches.proofs.saving.save.Goals as goal

pub copy_part-requires : goal.copy_part-requires
copy_part-requires c =
    let n = book_length _ c.requires in
    record { has_part = (omega arith, omega arith, inl (omega arith)); rows_end = (c.row_count-rows.ensures.bounded, present_rows_end _ c.requires _ c.row_count-rows.ensures.meaning, saved_past_rows _ c.requires _ c.row_count-rows.ensures.meaning) }

pub put-requires : goal.put-requires
put-requires c =
    let n = book_length _ c.requires in
    omega arith

pub returns : goal.returns
returns c = c.put.ensures ∙ ap (λ (x : List ℕ). splice x flag_offset (le 1 1)) c.copy_part.ensures
