-- What a method that puts text behind the lines in a lent buffer promises.
use Rattle.std.specs.Prelude.{◌≡◌, ℕ, List, length}
use Rattle.items.specs.declared.LineBuffer.{LineBuffer}
use Rattle.items.specs.Written.{Written}

-- the text is where the lines ended, and they end behind it; nothing else changed, and the buffer is the same
pub record Puts (before : LineBuffer) (text : List ℕ) (after : LineBuffer) : Type 0 where
  pub written : Written before.out.now before.end text after.out.now after.end
  pub same_buffer : after.out.ghost_name ≡ before.out.ghost_name
  pub same_length : length after.out.now ≡ length before.out.now
