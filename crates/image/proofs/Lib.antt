-- Laws of plain books, of their bytes, and of what is written there.
-- Round: bytes are a book exactly when they are the image of a valid one.
pub mod Round
-- Sound: what the tests of a valid book say, each by its name.
pub mod Sound
-- Keeping: every call keeps a valid book valid.
pub mod Keeping
-- Writing: what is written in a book.
pub mod Writing
-- Reading: what stands at a place of a book.
pub mod Reading
-- Setups: a set-up and its bytes.
pub mod Setups
-- Tables: tables by account hour, and how large sums can grow.
pub mod Tables
