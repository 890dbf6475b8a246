-- What the contracts of `batches` say.
-- Rooms: a part in the bytes of a book, copied and cleared.
pub mod Rooms
-- Saving: what kinds 5 to 8 are refused for, and what opening and ending a batch writes.
pub mod Saving
