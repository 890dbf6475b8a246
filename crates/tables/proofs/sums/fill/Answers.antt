-- After each row, what the table holds and the sums of the rows that are left together are the sums of all rows.
use Prim.Native.Nat.{◌+◌, ◌-◌, ◌*◌}
use mathlib.Core.Path.{◌≡◌}
use native.Mathlib.Omega.{arith}
use borrow.Author.Rules.{rules}
use Rattle.rules.proofs.Basics.Searches.{first_and_rest}
use Rattle.rules.specs.Limits.{most_energy}
use Rattle.image.specs.Tables.{Tabled}
use Rattle.image.specs.Layout.{row_width}
use Rattle.image.proofs.Reading.RowsFrom.{rows_done, rows_step}
use Rattle.tables.proofs.FillLaws.{filling_room, filling_next, filling_done}
use Rattle.tables.proofs.sums.fill.Goals as goal

pub add_row-requires : goal.add_row-requires
add_row-requires c =
    let step = rows_step c.args.s.now (c.args.at + row_width * c.loop-i.i) (c.args.n - c.loop-i.i) (c.args.n - (c.loop-i.i + 1)) (omega arith) in
    let first = rw step at c.loop-i.invariant.2 in
    let r : Tabled c.args.top c.row_at-r.result = rw c.row_at-r.ensures (first_and_rest first).0 in
    (search rules, record { tabled = r; room = filling_room _ _ _ _ _ c.loop-i.invariant.3 r (omega (arith, c.requires.2.few)) })

pub loop-i-preserved : goal.loop-i-preserved
loop-i-preserved c =
    let step = rows_step c.args.s.now (c.args.at + row_width * c.loop-i.i) (c.args.n - c.loop-i.i) (c.args.n - (c.loop-i.i + 1)) (omega arith) in
    let rows = rw step at c.loop-i.invariant.2 in
    let next : c.args.at + row_width * c.loop-i.i + row_width ≡ c.args.at + row_width * (c.loop-i.i + 1) = omega arith in (
      search rules,
      search rules,
      rw next at ((first_and_rest rows).1),
      rw next at (filling_next _ _ _ _ _ _ ((c.loop-i.i + 1) * most_energy) _ step (omega arith) (first_and_rest rows).0 (rw c.row_at-r.ensures at c.add_row.ensures) c.loop-i.invariant.3),
    )

pub returns : goal.returns
returns c = filling_done _ _ _ _ (rows_done _ _ _ (omega arith)) (omega (arith, c.requires.0.whole)) (omega (arith, c.requires.2.few)) c.loop-i.invariant.3
