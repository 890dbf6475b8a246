-- What the contracts of `strip_rows` say.
-- Rows: the rows of a strip from a place on, and the requests that they say.
pub mod Rows
-- Passes: a check that is put to one row after the other.
pub mod Passes
