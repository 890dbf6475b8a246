-- Laws of what the contracts of `wire` say.
-- NumberLaws: numbers and their bytes, there and back.
pub mod NumberLaws
-- RegionLaws: what a replaced region holds, and what it leaves.
pub mod RegionLaws
-- ZeroLaws: zero bytes, and the test that finds them.
pub mod ZeroLaws
-- PartLaws: parts of fixed width side by side, read, replaced, cut and put together again.
pub mod PartLaws
-- PackLaws: numbers, each in its width.
pub mod PackLaws
-- SlotLaws: cells of one width, elements in them and zeros behind.
pub mod SlotLaws
-- SweepLaws: a loop over cells.
pub mod SweepLaws
