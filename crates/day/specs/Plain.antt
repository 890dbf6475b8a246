-- Requests that a call's record says by itself, and that are lent nothing beside it: those of every single kind but settle.
use Rattle.std.specs.Prelude.{ℕ, Bool, not, ◌&&◌, eqb}
use Rattle.rules.specs.Requests.{settle, kind_number, is_single}

abbrev pub is_plain : ℕ → Bool
is_plain n = is_single n && not (eqb n (kind_number settle))
