-- Laws of batches and the gate.
-- Decisions: what the state refuses each kind for, test by test.
pub mod Decisions
-- Acceptances: what an accepted call writes is the image of the changed book.
pub mod Acceptances
-- BatchLaws: a part copied or cleared but for the room behind its rows, and where a book has such room.
pub mod BatchLaws
