-- Laws of the rows of a strip.
-- RowLaws: what a row says, read from its places.
pub mod RowLaws
-- RowsFrom: the rows from a place on, one by one.
pub mod RowsFrom
-- Passes: a check that is put to one row after the other.
pub mod Passes
-- StripLaws: what a strip is refused for before the book is looked at, check by check.
pub mod StripLaws
-- RowSteps: the rows of registers from a place on, and the requests that they say, one by one.
pub mod RowSteps
-- RequestLaws: the checks of requests, and the tests for codes, request by request.
pub mod RequestLaws
