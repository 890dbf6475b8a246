-- The width where the bit stands, else nothing.
use Rattle.rules.specs.Requests.{room}
use Rattle.records.proofs.tables.room_of.Goals as goal

pub returns-then-has_field : goal.returns-then-has_field
unfolding room
returns-then-has_field c = simp (← c.has_field.ensures, c.if-has_field.true, c.width.ensures)

pub returns-else-has_field : goal.returns-else-has_field
unfolding room
returns-else-has_field c = simp (← c.has_field.ensures, c.if-has_field.false)
