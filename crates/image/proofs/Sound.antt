-- What the tests of a valid book say, each by its name.
-- Soundness: what the tests of a set-up, a row and a schedule say, each by its name.
pub mod Soundness
-- SoundBooks: what the tests of a part and of a valid book say, each by its name.
pub mod SoundBooks
