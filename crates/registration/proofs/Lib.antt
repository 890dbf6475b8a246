-- Laws of registration.
-- Decisions: what the state refuses confirm and withdraw for, test by test.
pub mod Decisions
-- Acceptances: what an accepted confirm or withdraw writes is the image of the changed book.
pub mod Acceptances
-- Withdrawals: the row that a withdrawal names.
pub mod Withdrawals
-- SearchLaws: a search that goes through numbers in order, or through a span of them.
pub mod SearchLaws
-- PendingLaws: the search for a pending row.
pub mod PendingLaws
-- MarginLaws: the test for a broken margin at each hour, and the hours that are tested.
pub mod MarginLaws
-- CoverLaws: the guarantee in force and the maintenance of an operator, and what covers its exposure.
pub mod CoverLaws
-- GuaranteeLaws: what the state refuses a guarantee for, and what an accepted one writes.
pub mod GuaranteeLaws
-- AddingLaws: what the state decides on requests that add rows, of a register or of a strip.
pub mod AddingLaws
-- AppendLaws: rows put behind those that stand make the image of the book with them in.
pub mod AppendLaws
-- RegisterLaws: what the state refuses a register for, and what an accepted one writes.
pub mod RegisterLaws
-- ConfirmLaws: the row that a confirm names, what the state refuses a confirm for, and what an accepted one writes.
pub mod ConfirmLaws
-- PositionLaws: what moving the nets of a trade writes.
pub mod PositionLaws
