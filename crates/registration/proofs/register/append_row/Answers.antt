-- The row's bytes are put at the first free place, and then the count is written.
use Rattle.std.proofs.Common.{◌∙◌}
use Rattle.registration.proofs.register.append_row.Goals as goal

pub returns : goal.returns
returns c =
    c.put.ensures ∙ rw (c.copy_in.ensures, c.row_bytes-bytes.ensures)
