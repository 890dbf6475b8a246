-- What the contracts of `items` say; the items, lines and text that they lead to are those of rules/specs/Replay.antt.
-- Stream: the item at an offset of a stream, and how much of an item is its record.
pub mod Stream
-- Written: text put into a lent buffer.
pub mod Written
-- Puts: text put behind the lines in a lent buffer.
pub mod Puts
-- Figures: what a balance says, and the text of results and balances.
pub mod Figures
