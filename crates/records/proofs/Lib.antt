-- Laws of what the contracts of `records` say.
-- MapLaws: the bits of a map, counted two ways.
pub mod MapLaws
-- KindLaws: the map that a kind wants.
pub mod KindLaws
-- RangeLaws: the checks of a request's fields, bit by bit.
pub mod RangeLaws
-- FieldLaws: how wide fields are, and a list of them filled one after the other.
pub mod FieldLaws
-- ReadingLaws: what a record reads as, one law for each way out of the reader.
pub mod ReadingLaws
-- WritingLaws: a record put into a buffer, field by field, and the ways out of the writer.
pub mod WritingLaws
-- Theorems: what is written reads back, and what is read writes back.
pub mod Theorems
