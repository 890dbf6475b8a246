-- What is written in a book.
-- Sizes: what fits its room, and how long each section of an image then is.
pub mod Sizes
-- Nets: net positions in bytes, and the loop over those of one account.
pub mod Nets
-- Writes: what is written in a part.
pub mod Writes
-- BookWrites: what an accepted call of each kind writes in a book.
pub mod BookWrites
-- Loops: a loop over cells, step by step.
pub mod Loops
