-- A set-up and its bytes.
-- SetupRanges: the values of a set-up are in range, entry by entry.
pub mod SetupRanges
-- StoredSetup: a set-up and its bytes, there and back.
pub mod StoredSetup
-- SetupAgain: what was read from set-up bytes says them again, and opening accepts them where it is sound.
pub mod SetupAgain
