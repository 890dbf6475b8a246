-- What a function that puts text into a lent buffer promises.
use Rattle.std.specs.Prelude.{ℕ, ◌+◌, ◌≡◌, List, length}
use Rattle.wire.specs.Regions.{splice}

-- the text is at `at`, nothing else changed, and `past` is the offset behind it
pub record Written (before : List ℕ) (at : ℕ) (text after : List ℕ) (past : ℕ) : Type 0 where
  pub put : after ≡ splice before at text
  pub behind : past ≡ at + length text

-- no line is longer: four numbers of 20 digits, each with one byte behind it
abbrev pub line_room : ℕ
line_room = 84
