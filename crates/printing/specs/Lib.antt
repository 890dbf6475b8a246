-- What the contracts of `printing` say.
-- Rounds: lines gathered, written, and gathered again in the same buffer.
pub mod Rounds
